-- A line of which some records are renewed: with one action, the records that a place reaches (`line-renewed`); none, from a place past the line (`line_stays`);
-- some and then others (`line-twice`, `line-touched`).
-- Assumes nothing.
use mathlib.Core.Path.{◌≡◌, refl, sym, ap, subst, ◌∙◌}
use mathlib.Core.Bool.{Bool, true, false, cond, ◌&&◌, ◌||◌}
use mathlib.Core.List.{List}
use Prim.Native.Nat.{ℕ, suc, ◌+◌, ◌<◌, ◌≤◌}
use native.Mathlib.Numerals.{add-one}
use native.Mathlib.Omega.{arith}
use borrow.Author.Tests.{leb-true, leb-false, lt-ltb, le-ltb, lt-leb}
use lib.Dec.{leb, ltb}
use lib.ListN.{length, get_or, drop}
use Rattle.shapes.proofs.JoiningLaws.{length-line_types}
use Rattle.shapes.specs.Places.{place_before, place_of, place_behind}
use Rattle.selectors.specs.Selectors.{run}
use Rattle.masks.specs.Masks.{mask}
use Rattle.masks.proofs.MaskLaws.{masks-at}
use Rattle.lines.specs.declared.Frame.{Frame}
use Rattle.lines.specs.Held.{Line}
use Rattle.lines.specs.Joined.{types_of, fresh_actions, fresh_line}
use Rattle.lines.proofs.LineLaws.{length-fresh, formed, same_line}
use Rattle.renewing.specs.Renewable.{Renewable}
use Rattle.renewing.specs.Renewed.{reached, touched, renewed, renewed_line, span}
use Rattle.renewing.proofs.RenewLaws.{length-renewed, renewed-alike, renewed-none, renewed-twice}
use Rattle.renewing.proofs.FreshLaws.{fresh-run}

-- the records that k reaches are those from k to before an end
span-reached : (m : Bool) (cs : List ℕ) (k end j : ℕ) → end ≡ k + 1 + cond m (run (drop (k + 1) cs)) 0 → span k end j ≡ reached m cs k j
span-reached m cs k end j e =
    let to = cond m (run (drop (suc k) cs)) 0 in
    let f : end ≡ k + 1 + to = e ∙ rw add-one refl in
    ap (λ (b : Bool). leb k j && b) (go to f (leb j (k + to)) refl)
  where
    go : (n : ℕ) → end ≡ k + 1 + n → (b : Bool) → leb j (k + n) ≡ b → ltb j end ≡ b
    go n f true q = lt-ltb j end (omega (arith, leb-true j (k + n) q))
    go n f false q = le-ltb j end (omega (arith, leb-false j (k + n) q))

module _ {f : Frame} {l : Line} (held : Renewable f l) where
  size : length (fresh_actions f l) ≡ length l.letters.types
  size = length-fresh f l ∙ length-line_types l.letters.types l.letters.categories held.letters.even

  pub fresh-mask :
      (j : ℕ) → j < length l.letters.types → get_or (fresh_line f l).masks j 0 ≡ mask f.features (get_or l.base j 0) (get_or (fresh_actions f l) j 0)
  fresh-mask j h = masks-at f.features l.base (fresh_actions f l) j (omega (arith, held.base)) (omega (arith, size))

  module _ (k : ℕ) where
    pub line-renewed :
        (action end : ℕ) (actions' masks' : List ℕ) → action ≡ get_or (fresh_actions f l) k 0
        → end ≡ k + 1 + cond f.mongolian (run (drop (k + 1) l.codes)) 0 → actions' ≡ renewed (span k end) (λ j. action) l.actions
        → masks' ≡ renewed (span k end) (λ j. mask f.features (get_or l.base j 0) action) l.masks
        → formed l.codes l.letters l.base actions' masks' ≡ renewed_line f (reached f.mongolian l.codes k) l
    line-renewed action end actions' masks' ea ee e d =
        let ts = types_of l.letters in
        let at = reached f.mongolian l.codes k in
        let n = length-line_types l.letters.types l.letters.categories held.letters.even in
        let same : (j : ℕ) → span k end j ≡ at j = λ j. span-reached f.mongolian l.codes k end j ee in
        let runs : (j : ℕ) → j < length l.letters.types → span k end j ≡ true → action ≡ get_or (fresh_actions f l) j 0 = λ j h q. ea ∙ sym (fresh-run f.mongolian l.codes f.before.0 ts f.behind.0 k j (omega (arith, n)) (sym (same j) ∙ q)) in
        let acted : actions' ≡ renewed at (λ j. get_or (fresh_actions f l) j 0) l.actions = e ∙ renewed-alike (span k end) at _ _ l.actions (λ j h. same j) (λ j h. runs j (omega (arith, held.actions))) in
        let masked : masks' ≡ renewed at (λ j. get_or (fresh_line f l).masks j 0) l.masks = d ∙ renewed-alike (span k end) at _ _ l.masks (λ j h. same j)
        (λ j h q. ap (mask f.features (get_or l.base j 0)) (runs j (omega (arith, held.masks)) q) ∙ sym (fresh-mask j (omega (arith, held.masks)))) in
        same_line l.codes l.letters l.base acted masked

    pub line_stays : length l.letters.types ≤ k → l ≡ renewed_line f (reached f.mongolian l.codes k) l
    line_stays h =
        let at = reached f.mongolian l.codes k in
        let none : (j : ℕ) → j < length l.letters.types → at j ≡ false = λ j g. simp (lt-leb k j (omega arith)) in
        let acted = renewed-none at (λ j. get_or (fresh_actions f l) j 0) l.actions (λ j g. none j (omega (arith, held.actions))) in
        let masked = renewed-none at (λ j. get_or (fresh_line f l).masks j 0) l.masks (λ j g. none j (omega (arith, held.masks))) in
        sym (same_line l.codes l.letters l.base acted masked)

pub line-twice : (f : Frame) (at also : ℕ → Bool) (l : Line) → renewed_line f also (renewed_line f at l) ≡ renewed_line f (λ j. also j || at j) l
line-twice f at also l =
    let acted = renewed-twice at also (λ j. get_or (fresh_actions f l) j 0) l.actions in
    let masked = renewed-twice at also (λ j. get_or (fresh_line f l).masks j 0) l.masks in
    same_line l.codes l.letters l.base acted masked

-- a renewed line can be renewed again
pub renewed-held : {f : Frame} {l : Line} → Renewable f l → (at : ℕ → Bool) (m : Line) → m ≡ renewed_line f at l → Renewable f m
renewed-held {f} {l} held at m e =
    subst (Renewable f) (sym e)
    (record {
      letters = held.letters;
      codes = held.codes;
      base = held.base;
      actions = length-renewed at _ l.actions ∙ held.actions;
      masks = length-renewed at _ l.masks ∙ held.masks;
      features = held.features;
    })

-- what the letter behind a place reaches, then what the one before it does, then what the place itself does
pub line-touched :
    (f : Frame) (l behind before last : Line) (k q n : ℕ) → q ≡ place_before (types_of l.letters) k → n ≡ k + 1 + place_of (drop (k + 1) (types_of l.letters))
    → behind ≡ renewed_line f (reached f.mongolian l.codes n) l → before ≡ renewed_line f (reached f.mongolian l.codes q) behind
    → last ≡ renewed_line f (reached f.mongolian l.codes k) before → last ≡ renewed_line f (touched f l k) l
line-touched f l behind before last k q n eq en e d c =
    let reach = reached f.mongolian l.codes in
    let m : n ≡ place_behind (types_of l.letters) k = en ∙ rw add-one refl in
    c ∙ ap (renewed_line f (reach k)) (d ∙ ap (renewed_line f (reach q)) e ∙ line-twice f (reach n) (reach q) l) ∙ line-twice f (λ j. reach q j || reach n j) (reach k) l
    ∙ rw (eq, m) refl
