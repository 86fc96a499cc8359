-- What is known of a line that is not refused (`accepted`, `no_row`), and that it is not refused once it is joined (`refusal-joined`). And of lines: fresh actions are those of the line between its contexts (`fresh_contexts`), as many as letters; lines that differ in actions and masks alone.
-- Assumes nothing.
use mathlib.Core.Path.{◌≡◌, refl, sym, ◌∙◌}
use mathlib.Core.Bool.{Bool, true, false, cond, ◌&&◌}
use mathlib.Core.List.{List, [], ◌∷◌}
use Prim.Native.Nat.{ℕ}
use borrow.Author.Tests.{eqb-true, not-false}
use lib.ListN.{length}
use Rattle.laws.specs.Rows.{Given}
use Rattle.laws.proofs.RowLaws.{first-none}
use Rattle.laws.proofs.TestLaws.{both}
use Rattle.refusals.specs.Columns.{at_most}
use Rattle.letters.specs.Types.{X}
use Rattle.letters.specs.Categories.{Zs}
use Rattle.shapes.specs.Joining.{form, each_between, actions_of}
use Rattle.shapes.proofs.JoiningLaws.{length-each, length-line_types}
use Rattle.selectors.specs.Selectors.{settled}
use Rattle.selectors.proofs.SelectorLaws.{length-settled}
use Rattle.masks.specs.Masks.{masks}
use Rattle.masks.proofs.MaskLaws.{length-masks}
use Rattle.joining.specs.Joinable.{Joinable}
use Rattle.lines.specs.declared.Frame.{Frame}
use Rattle.lines.specs.Held.{Letters, Setting, Line}
use Rattle.lines.specs.Joined.{types_of, frame_of, fresh_actions, joined_line, sized, even_letters, even_line_lem, known_letters_lem, uneven, too_long, strange, refusal}

sized-length : (n : ℕ) (column : List ℕ) → sized n column ≡ true → length column ≡ n
sized-length n column e = sym (eqb-true n (length column) e)

joinable : (l : Letters) → even_letters l ≡ true → known_letters_lem l ≡ true → Joinable l.types l.categories
joinable l e k =
    record {
      even = sym (sized-length (length l.types) l.categories e);
      small = (both (at_most X l.types) (at_most Zs l.categories) k).0;
    }

-- a line that is not refused
pub record Accepted (s : Setting) (l : Line) : Type 0 where
  pub line : Joinable l.letters.types l.letters.categories
  pub pre : Joinable s.pre.types s.pre.categories
  pub post : Joinable s.post.types s.post.categories
  pub codes : length l.codes ≡ length l.letters.types
  pub base : length l.base ≡ length l.letters.types
  pub actions : length l.actions ≡ length l.letters.types
  pub masks : length l.masks ≡ length l.letters.types

-- of the rows that joining uses, none applies
pub no_row : (s : Setting) (l : Line) → uneven (even_line_lem l) s.pre s.post ≡ false → strange l.letters s.pre s.post ≡ false → Accepted s l
no_row s l uneven-not strange-not =
    let n = length l.letters.types in
    let contexts-even = even_letters s.pre && even_letters s.post in
    let contexts-known = known_letters_lem s.pre && known_letters_lem s.post in
    let e = both (even_line_lem l) contexts-even (not-false _ uneven-not) in
    let contexts-e = both (even_letters s.pre) (even_letters s.post) e.1 in
    let k = both (known_letters_lem l.letters) contexts-known (not-false _ strange-not) in
    let contexts-k = both (known_letters_lem s.pre) (known_letters_lem s.post) k.1 in
    let m = sized n l.masks in
    let a = sized n l.actions && m in
    let b = sized n l.base && a in
    let columns = both (even_letters l.letters) (sized n l.codes && b) e.0 in
    let from-codes = both (sized n l.codes) b columns.1 in
    let from-base = both (sized n l.base) a from-codes.1 in
    let from-actions = both (sized n l.actions) m from-base.1 in
    record {
      line = joinable l.letters columns.0 k.0;
      pre = joinable s.pre contexts-e.0 contexts-k.0;
      post = joinable s.post contexts-e.1 contexts-k.1;
      codes = sized-length n l.codes from-codes.0;
      base = sized-length n l.base from-base.0;
      actions = sized-length n l.actions from-actions.0;
      masks = sized-length n l.masks from-actions.1;
    }

pub accepted : (s : Setting) (l : Line) → refusal s l ≡ 0 → Accepted s l
unfolding refusal
accepted s l h =
    let long = too_long l.letters s.pre s.post in
    let odd = strange l.letters s.pre s.post in
    let uneven-not = first-none 0 (uneven (even_line_lem l) s.pre s.post) (Given 2 long ∷ Given 3 odd ∷ []) h in
    let long-not = first-none 1 long (Given 3 odd ∷ []) uneven-not.1 in
    no_row s l uneven-not.0 (first-none 2 odd [] long-not.1).0

-- ---- fresh actions
pub length-fresh : (f : Frame) (l : Line) → length (fresh_actions f l) ≡ length (types_of l.letters)
length-fresh f l = go f.mongolian
  where
    joined : List ℕ
    joined = each_between form f.before.0 (types_of l.letters) f.behind.0

    go : (mongolian : Bool) → length (cond mongolian (settled l.codes joined) joined) ≡ length (types_of l.letters)
    go true = length-settled l.codes joined ∙ length-each form f.before.0 (types_of l.letters) f.behind.0
    go false = length-each form f.before.0 (types_of l.letters) f.behind.0

-- those that `actions_of` gives, settled in a Mongolian line
pub fresh_contexts :
    (s : Setting) (l : Line)
    → let joined = actions_of (types_of s.pre) (types_of l.letters) (types_of s.post) in
    fresh_actions (frame_of s) l ≡ cond s.mongolian (settled l.codes joined) joined
fresh_contexts s l = refl

-- a joined line is refused as the line itself is: never
pub refusal-joined : (s : Setting) (l : Line) → Accepted s l → refusal s (joined_line s l) ≡ refusal s l
unfolding refusal
refusal-joined s l a =
    let n = length l.letters.types in
    let long : length (fresh_actions (frame_of s) l) ≡ n = length-fresh (frame_of s) l ∙ length-line_types l.letters.types l.letters.categories a.line.even in
    let masked : length (masks s.features l.base (fresh_actions (frame_of s) l)) ≡ n = length-masks s.features l.base (fresh_actions (frame_of s) l) (a.base ∙ sym long) ∙ long in
    rw (long, masked, a.actions, a.masks)

-- lines that differ in actions and masks alone
abbrev pub formed : List ℕ → Letters → List ℕ → List ℕ → List ℕ → Line
formed codes letters base actions masks = record { codes = codes; letters = letters; base = base; actions = actions; masks = masks }

pub same_line :
    (codes : List ℕ) (letters : Letters) (base : List ℕ) {a b m n : List ℕ} → a ≡ b → m ≡ n → formed codes letters base a m ≡ formed codes letters base b n
same_line codes letters base e d = λ i. formed codes letters base (e i) (d i)
