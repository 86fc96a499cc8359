-- What is known of a request that is not refused (`Allowed`, `allowed`); what the call leaves (`left_replaced`); and that, once it is carried out, every other request has the number that it had before
-- (`refusal_replaced`), and so has joining (`joining_replaced`).
-- Assumes nothing.
use mathlib.Core.Path.{◌≡◌, refl, sym, ◌∙◌}
use mathlib.Core.Bool.{Bool, true, false, cond, ◌&&◌, ◌||◌, and-eq-true_iff}
use mathlib.Core.List.{[], ◌∷◌}
use mathlib.Core.Logic.{◌⊎◌, inl, inr}
use Prim.Native.Nat.{ℕ, ◌<◌, ◌≤◌}
use native.Mathlib.Omega.{arith}
use borrow.Author.Tests.{not-false, ltb-true, eqb-true, eqb-false}
use lib.Dec.{leb, eqb}
use lib.ListN.{length, get_or, length-set}
use Rattle.laws.specs.Rows.{Given}
use Rattle.laws.proofs.RowLaws.{first-none}
use Rattle.laws.proofs.TestLaws.{neither}
use Rattle.refusals.specs.Columns.{at_most}
use Rattle.refusals.specs.Left.{After}
use Rattle.refusals.proofs.ColumnLaws.{at_most-at, at_most-all, at_most-set}
use Rattle.refusals.proofs.LeftLaws.{left-number, left_stays, left-accepted}
use Rattle.letters.specs.Types.{X}
use Rattle.letters.specs.Categories.{Zs}
use Rattle.letters.specs.Actions.{repeating}
use Rattle.shapes.proofs.JoiningLaws.{length-line_types}
use Rattle.lines.specs.Held.{Setting, Line}
use Rattle.lines.specs.Joined.{types_of, frame_of, fresh_actions, even_line_lem, known_letters_lem, uneven, too_long, strange, refusal}
use Rattle.lines.proofs.LineLaws.{Accepted, no_row}
use Rattle.renewing.specs.Renewed.{touched, renewed}
use Rattle.renewing.specs.Renewable.{Renewable}
use Rattle.replacing.specs.Replaced.{Request, changed, replaced_line, strange_request, outside, replace_refusal, replace_after}
use Rattle.renewing.proofs.RenewLaws.{length-renewed, renewed-at}
use Rattle.replacing.proofs.LocalLaws.{length-changed, fresh-most}

-- of the rows that replacing uses, none applies
pub record Allowed (s : Setting) (r : Request) (l : Line) : Type 0 where
  pub line : Accepted s l
  pub inside : r.place < length l.letters.types
  pub known : known_letters_lem l.letters ≡ true
  pub actions : at_most repeating l.actions ≡ true
  pub type : leb r.type X ≡ true
  pub category : leb r.category Zs ≡ true

pub allowed : (s : Setting) (r : Request) (l : Line) → replace_refusal s r l ≡ 0 → Allowed s r l
unfolding replace_refusal
allowed s r l h =
    let odd = strange l.letters s.pre s.post in
    let wrong = odd || strange_request r l in
    let long = too_long l.letters s.pre s.post in
    let last = Given 4 (outside r l) ∷ [] in
    let uneven-not = first-none 0 (uneven (even_line_lem l) s.pre s.post) (Given 2 long ∷ Given 3 wrong ∷ last) h in
    let long-not = first-none 1 long (Given 3 wrong ∷ last) uneven-not.1 in
    let wrong-not = first-none 2 wrong last long-not.1 in
    let outside-not = first-none 3 (outside r l) [] wrong-not.1 in
    let both = neither odd (strange_request r l) wrong-not.0 in
    let contexts = known_letters_lem s.pre && known_letters_lem s.post in
    let fits = leb r.type X && leb r.category Zs in
    let asked = (and-eq-true_iff (at_most repeating l.actions) fits).0 (not-false _ both.1) in
    let new = (and-eq-true_iff (leb r.type X) (leb r.category Zs)).0 asked.1 in
    record {
      line = no_row s l uneven-not.0 both.0;
      inside = ltb-true r.place (length l.letters.types) (not-false _ outside-not.0);
      known = ((and-eq-true_iff (known_letters_lem l.letters) contexts).0 (not-false _ both.0)).0;
      actions = asked.0;
      type = new.0;
      category = new.1;
    }

-- so the line with the new letter can be renewed
pub changed-held : {s : Setting} {r : Request} {l : Line} → Allowed s r l → length s.features ≡ 7 → Renewable (frame_of s) (changed r l)
changed-held {s} {r} {l} a seven =
    let at = r.place in
    record {
      letters =
          record {
            even = simp length-set a.line.line.even;
            small = at_most-set X l.letters.types at r.type a.line.line.small a.type;
          };
      codes = simp length-set a.line.codes;
      base = simp length-set a.line.base;
      actions = simp length-set a.line.actions;
      masks = simp length-set a.line.masks;
      features = seven;
    }

-- what a statement allows: the line as it was, or a request that is not refused and the line with the new letter
pub left_replaced :
    (s : Setting) (r : Request) (l : Line) (n : ℕ) (m : Line) → After n m ≡ replace_after s r l
    → ((n ≡ 0 → ⊥) × (m ≡ l)) ⊎ (Allowed s r l × (m ≡ replaced_line (frame_of s) r l))
left_replaced s r l n m e = go (eqb n 0) refl
  where
    go : (b : Bool) → eqb n 0 ≡ b → ((n ≡ 0 → ⊥) × (m ≡ l)) ⊎ (Allowed s r l × (m ≡ replaced_line (frame_of s) r l))
    go true z =
        let o = eqb-true n 0 z in
        inr (allowed s r l (sym (left-number (replace_refusal s r l) l (replaced_line (frame_of s) r l) n m e) ∙ o), left-accepted (replace_refusal s r l) l (replaced_line (frame_of s) r l) n m e o)
    go false z = inl (eqb-false n 0 z, left_stays (replace_refusal s r l) l (replaced_line (frame_of s) r l) n m e (eqb-false n 0 z))

module _ (s : Setting) (r : Request) (l : Line) (a : Allowed s r l) where
  -- the letters of a line have as many types in the end as they have types
  pub length-letters : length (types_of l.letters) ≡ length l.letters.types
  length-letters = length-line_types l.letters.types l.letters.categories a.line.line.even

  known_replaced : known_letters_lem (replaced_line (frame_of s) r l).letters ≡ true
  known_replaced =
      let ts = l.letters.types in
      let cs = l.letters.categories in
      let k = (and-eq-true_iff (at_most X ts) (at_most Zs cs)).0 a.known in
      simp (at_most-set X ts r.place r.type k.0 a.type, at_most-set Zs cs r.place r.category k.1 a.category)

  actions_replaced : at_most repeating (replaced_line (frame_of s) r l).actions ≡ true
  actions_replaced =
      let new = changed r l in
      let at = touched (frame_of s) new r.place in
      let fresh : ℕ → ℕ = λ j. get_or (fresh_actions (frame_of s) new) j 0 in
      at_most-all repeating (renewed at fresh l.actions)
      (λ j h.
      let on : j < length l.actions = omega (arith, length-renewed at fresh l.actions) in
      rw (renewed-at at fresh l.actions j on)
      (either (at j) (omega (arith, fresh-most (frame_of s) new j (omega (arith, a.line.actions, length-letters, length-changed (frame_of s) r l)))) (at_most-at repeating l.actions a.actions j)))
    where
      either : (b : Bool) {x y : ℕ} → x ≤ repeating → y ≤ repeating → cond b x y ≤ repeating
      either true h k = h
      either false h k = k

  -- nor is a line that stays allowed refused by joining
  pub joining_replaced : refusal s (replaced_line (frame_of s) r l) ≡ refusal s l
  unfolding refusal
  joining_replaced =
      let m = replaced_line (frame_of s) r l in
      let even : even_line_lem m ≡ even_line_lem l = simp (length-set, length-renewed) in
      let long : too_long m.letters s.pre s.post ≡ too_long l.letters s.pre s.post = simp length-set in
      rw (even, long, known_replaced, a.known)

  pub refusal_replaced : (q : Request) → replace_refusal s q (replaced_line (frame_of s) r l) ≡ replace_refusal s q l
  unfolding replace_refusal
  refusal_replaced q =
      let m = replaced_line (frame_of s) r l in
      let even : even_line_lem m ≡ even_line_lem l = simp (length-set, length-renewed) in
      let long : too_long m.letters s.pre s.post ≡ too_long l.letters s.pre s.post = simp length-set in
      let out : outside q m ≡ outside q l = simp length-set in
      rw (even, long, out, known_replaced, actions_replaced, a.known, a.actions)
