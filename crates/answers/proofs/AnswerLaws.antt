-- What joining answers of a line decides what is printed of it; and columns that a text was read into give what is printed of the text.
-- Assumes nothing.
use Rattle.std.specs.Prelude.{Option, None, Some}
use Prim.Native.Nat.{ℕ, suc, ◌+◌, ◌≤◌, ◌<◌, min}
use mathlib.Core.Bool.{Bool, true, false, cond, not, ◌&&◌, false≢true}
use mathlib.Core.List.{List, [], ◌∷◌, map}
use mathlib.Core.Path.{◌≡◌, refl, sym, ap, ◌∙◌}
use native.Mathlib.Nat.{min-eq_left, min-le_left, min-le_right, le-min}
use native.Mathlib.Omega.{arith}
use lib.Dec.{leb}
use lib.ListN.{length, take, drop, length-map}
use lib.Seq.{sets, sets-eq, take_at, length-take-le, length-sets}
use borrow.Author.Tests.{eq-eqb, le-leb, lt-leb, leb-true, leb-false}
use Rattle.entries.specs.declared.Entry.{Entry}
use Rattle.entries.specs.Form as form
use Rattle.texts.specs.Form.{codes_of, widths_of, kinds_of, categories_of, lines, says, readable, leading, entries, last, told, Closed, Close, whole}
use Rattle.laws.specs.Rows.{Given, first}
use Rattle.shapes.specs.Joining.{line_types, actions_of}
use Rattle.refusals.specs.Left.{After}
use Rattle.lines.specs.Held.{Setting, Line, letters_of, setting_of, line_of}
use Rattle.lines.specs.Joined.{known_letters_lem, refusal, joined_line, join_after}
use Rattle.printing.specs.Printed.{printed, unreadable_text, refused_text}
use Rattle.printing.specs.Writing.{Written, filled}
use Rattle.answers.specs.Output.{limit, line_text, entry_text, output, room, lines_text, answer_text, Even}

-- No contexts, no feature masks, not Mongolian.
abbrev pub plain : Setting
plain = setting_of [] [] [] [] (0 ∷ 0 ∷ 0 ∷ 0 ∷ 0 ∷ 0 ∷ 0 ∷ []) false

module _ (c w t g b x m : List ℕ) (e : Even (length t) c g b x m) where
  -- Such a line is refused with 3 or not at all.
  refused_three : refusal plain (line_of c t g b x m) ≡ cond (known_letters_lem (letters_of t g)) 0 3
  unfolding refusal
  refused_three =
      rw (
        eq-eqb (length t) (length g) e.category,
        eq-eqb (length t) (length c) e.code,
        eq-eqb (length t) (length b) e.bases,
        eq-eqb (length t) (length x) e.action,
        eq-eqb (length t) (length m) e.mask,
        le-leb (length t) 4096 (omega (arith, e.few)),
      )
      (go (known_letters_lem (letters_of t g)))
    where
      go : (k : Bool) → first (Given 3 (not (k && true)) ∷ []) ≡ cond k 0 3
      go true = refl
      go false = refl

  -- An accepted line is known, and has the actions that are printed.
  pub line-accepted : (k n : ℕ) (l : Line) → k ≡ n → After n l ≡ join_after plain (line_of c t g b x m) → k ≡ 0 → printed c w l.actions ≡ line_text c w t g
  unfolding line_text
  line-accepted k n l s a z = go (known_letters_lem (letters_of t g)) refused_three a
    where
      go :
          (q : Bool) → refusal plain (line_of c t g b x m) ≡ cond q 0 3 → After n l ≡ join_after plain (line_of c t g b x m)
          → printed c w l.actions ≡ cond q (printed c w (actions_of [] (line_types t g) [])) (refused_text 3)
      go true r a =
          let f : After n l ≡ After 0 (joined_line plain (line_of c t g b x m)) = rw r at a in
          let same : l ≡ joined_line plain (line_of c t g b x m) = cc in
          ap (λ (q : Line). printed c w q.actions) same
      go false r a =
          let f : After n l ≡ After 3 (line_of c t g b x m) = rw r at a in
          let three : n ≡ 3 = cc in
          absurd (omega arith)

  -- A refused one is not.
  pub line_refused : (k n : ℕ) (l : Line) → k ≡ n → After n l ≡ join_after plain (line_of c t g b x m) → (k ≡ 0 → ⊥) → refused_text k ≡ line_text c w t g
  unfolding line_text
  line_refused k n l s a z = go (known_letters_lem (letters_of t g)) refused_three a
    where
      go :
          (q : Bool) → refusal plain (line_of c t g b x m) ≡ cond q 0 3 → After n l ≡ join_after plain (line_of c t g b x m)
          → refused_text k ≡ cond q (printed c w (actions_of [] (line_types t g) [])) (refused_text 3)
      go true r a =
          let f : After n l ≡ After 0 (joined_line plain (line_of c t g b x m)) = rw r at a in
          let none : n ≡ 0 = cc in
          absurd (z (s ∙ none))
      go false r a =
          let f : After n l ≡ After 3 (line_of c t g b x m) = rw r at a in
          let three : n ≡ 3 = cc in
          ap refused_text (s ∙ three)

-- What it is that columns hold n records.
pub record Holds (n : ℕ) (c w t g : List ℕ) : Type 0 where
  pub few : n ≤ limit
  pub codes : n ≤ length c
  pub widths : n ≤ length w
  pub types : n ≤ length t
  pub categories : n ≤ length g

least-both : (n a b : ℕ) → n ≤ min a b → (n ≤ a) × (n ≤ b)
least-both n a b h = (omega (arith, min-le_left a b), omega (arith, min-le_right a b))

pub room-holds : (n : ℕ) (c w t g : List ℕ) → n ≤ room c w t g → Holds n c w t g
room-holds n c w t g h =
    let p = least-both n limit (min (min (length c) (length w)) (min (length t) (length g))) h in
    let q = least-both n (min (length c) (length w)) (min (length t) (length g)) p.1 in
    let x = least-both n (length c) (length w) q.0 in
    let y = least-both n (length t) (length g) q.1 in
    record { few = p.0; codes = x.0; widths = x.1; types = y.0; categories = y.1 }

pub even-front :
    (n : ℕ) (c w t g b x m : List ℕ) → Holds n c w t g → limit ≤ length b → limit ≤ length x → limit ≤ length m
    → Even (length (take n t)) (take n c) (take n g) (take n b) (take n x) (take n m)
even-front n c w t g b x m h hb hx hm =
    let len : length (take n t) ≡ n = length-take-le n t h.types in
    rw len
    (record {
      few = h.few;
      code = sym (length-take-le n c h.codes);
      category = sym (length-take-le n g h.categories);
      bases = sym (length-take-le n b (omega (arith, h.few)));
      action = sym (length-take-le n x (omega (arith, h.few)));
      mask = sym (length-take-le n m (omega (arith, h.few)));
    })

-- ---- columns that a text was read into
-- Lines that all say an entry have as many.
entries-all : (ls : List (List ℕ)) → readable ls ≡ true → length (entries ls) ≡ length ls
entries-all [] r = refl
entries-all (l ∷ ls) r = go (form.line_of (form.fields l)) r (entries-all ls)
  where
    go :
        (x : Option Entry) → (says x && readable ls) ≡ true → (readable ls ≡ true → length (entries ls) ≡ length ls)
        → length (leading x (entries ls)) ≡ suc (length ls)
    go None r ih = absurd (false≢true r)
    go (Some e) r ih = ap suc (ih r)

-- The front of a column that values were stored in from its start.
front-sets : {A : Type 0} (f : A → ℕ) (es : List A) (l : List ℕ) (n : ℕ) → length es ≡ n → n ≤ length l → take n (sets l 0 (map f es)) ≡ map f es
front-sets f es l n e h =
    let len : length (map f es) ≡ n = length-map es f ∙ e in
    ap (take n) (sets-eq (map f es) l 0 (omega arith)) ∙ take_at (map f es) (drop (0 + length (map f es)) l) n len

-- Columns of at least the limit hold the limit.
room-full : (c w t g : List ℕ) → limit ≤ length c → limit ≤ length w → limit ≤ length t → limit ≤ length g → room c w t g ≡ limit
room-full c w t g hc hw ht hg =
    min-eq_left {n = limit} {m = min (min (length c) (length w)) (min (length t) (length g))}
    (le-min (le-min hc hw) (le-min ht hg))

-- What is printed of what a text came to.
abbrev closed_text : Closed → List ℕ
closed_text (Close x c w t g) = answer_text x c w t g

module _ (text c w t g : List ℕ) (hc : limit ≤ length c) (hw : limit ≤ length w) (ht : limit ≤ length t) (hg : limit ≤ length g) where
  abbrev said : List Entry
  said = entries (lines text)

  abbrev codes : List ℕ
  codes = sets c 0 (codes_of said)

  abbrev widths : List ℕ
  widths = sets w 0 (widths_of said)

  abbrev types : List ℕ
  types = sets t 0 (kinds_of said)

  abbrev categories : List ℕ
  categories = sets g 0 (categories_of said)

  full : room codes widths types categories ≡ limit
  full = room-full codes widths types categories (simp length-sets hc) (simp length-sets hw) (simp length-sets ht) (simp length-sets hg)

  text-answer : answer_text (told text) codes widths types categories ≡ output text
  unfolding output lines_text
  text-answer = go (readable (lines text)) refl
    where
      n : ℕ
      n = length (lines text)

      lined : (b : Bool) → leb n limit ≡ b → length said ≡ n → lines_text (min n last) codes widths types categories ≡ cond b (entry_text said) (refused_text 2)
      lined true f e =
          let h : n ≤ limit = leb-true n limit f in
          let same : min n last ≡ n = min-eq_left {n = n} {m = last} (omega arith) in
          rw (same, full, f, front-sets (λ (e : Entry). e.code) said c n e (omega arith), front-sets (λ (e : Entry). e.width) said w n e (omega arith), front-sets (λ (e : Entry). e.kind) said t n e (omega arith), front-sets (λ (e : Entry). e.category) said g n e (omega arith))
      lined false f e =
          let h : limit < n = leb-false n limit f in
          rw (full, lt-leb (min n last) limit (le-min h (omega arith)))

      go :
          (r : Bool) → readable (lines text) ≡ r
          → answer_text (cond r (Some (min n last)) None) codes widths types categories ≡ cond r (cond (leb n limit) (entry_text said) (refused_text 2)) unreadable_text
      go true r = lined (leb n limit) refl (entries-all (lines text) r)
      go false r = refl

  -- Whatever a text came to in such columns, what is printed of them is what is printed of the text.
  pub read_answer :
      (x : Option ℕ) (c' w' t' g' : List ℕ) → Close x c' w' t' g' ≡ whole text c w t g → answer_text x c' w' t' g' ≡ output text
  unfolding whole
  read_answer x c' w' t' g' e =
      ap closed_text e ∙ text-answer

-- So what is written of the columns is what is written of the text.
pub answered :
    (x : Option ℕ) (c' w' t' g' out : List ℕ) {y : Written} → y ≡ filled out (answer_text x c' w' t' g')
    → (y ≡ filled out (answer_text x c' w' t' g')) × ((text c w t g : List ℕ) → limit ≤ length c → limit ≤ length w → limit ≤ length t → limit ≤ length g → Close x c' w' t' g' ≡ whole text c w t g → y ≡ filled out (output text))
answered x c' w' t' g' out e = (e, λ text c w t g hc hw ht hg r. e ∙ ap (filled out) (read_answer text c w t g hc hw ht hg x c' w' t' g' r))
