-- The records that a new letter touches, joined afresh (document 01, "Replacing a letter"): `reached`, `touched` which they are; `renewed`, `renewed_line` what they and
-- the others have then; `span` the records of a part, `mask_at` the masks that they get.
-- Assumes nothing.
use Rattle.std.specs.Prelude.{Bool, cond, ◌&&◌, ◌||◌, List, [], ◌∷◌, ℕ, suc, ◌+◌, leb, ltb, get_or, drop}
use Rattle.shapes.specs.Places.{place_before, place_behind}
use Rattle.selectors.specs.Selectors.{run}
use Rattle.masks.specs.Masks.{mask}
use Rattle.lines.specs.declared.Frame.{Frame}
use Rattle.lines.specs.Held.{Line}
use Rattle.lines.specs.Joined.{types_of, fresh_line}

-- record j is the one at k or, in a Mongolian line, one of "the run of selectors directly behind" it
abbrev pub reached : Bool → List ℕ → ℕ → ℕ → Bool
reached mongolian codes k j = leb k j && leb j (k + cond mongolian (run (drop (suc k) codes)) 0)

-- record j is joined afresh when the letter at p is new: "the place, q, n and, in Mongolian, the run of selectors directly behind each",
-- where q and n are "the nearest non-T records of the line before and after it"
abbrev pub touched : Frame → Line → ℕ → ℕ → Bool
touched f l p j =
    let ts = types_of l.letters in
    let near : ℕ → Bool = λ k. reached f.mongolian l.codes k j in
    near p || (near (place_before ts p) || near (place_behind ts p))

-- a column in which each record of which `at` holds is as `fresh` says, and each other one as it was
abbrev pub renewed : (ℕ → Bool) → (ℕ → ℕ) → List ℕ → List ℕ
renewed at fresh [] = []
renewed at fresh (x ∷ xs) = cond (at 0) (fresh 0) x ∷ renewed (λ j. at (suc j)) (λ j. fresh (suc j)) xs

-- the records from k to before end
abbrev pub span : ℕ → ℕ → ℕ → Bool
span k end j = leb k j && ltb j end

-- the mask of an action at a place, by the base mask there
abbrev pub mask_at : List ℕ → List ℕ → ℕ → ℕ → ℕ
mask_at features base action j = mask features (get_or base j 0) action

-- a line in which the records of which `at` holds have "the action and mask that fresh joining gives". "Nothing else changes, even where the line was not current before"
abbrev pub renewed_line : Frame → (ℕ → Bool) → Line → Line
renewed_line f at l =
    let fresh = fresh_line f l in
    record {
      codes = l.codes;
      letters = l.letters;
      base = l.base;
      actions = renewed at (λ j. get_or fresh.actions j 0) l.actions;
      masks = renewed at (λ j. get_or fresh.masks j 0) l.masks;
    }
