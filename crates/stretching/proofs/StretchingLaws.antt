-- What is known of the call: an answer is known by its number and by the length that it says (`same_answer`); what an accepted call leaves
-- (`accepted-left`); a request that is not refused (`evenly`, `Allowed`, `allowed`).
-- Assumes nothing.
use mathlib.Core.Path.{◌≡◌, sym, ap}
use mathlib.Core.Bool.{true, false, not, ◌&&◌, and-eq-true_iff}
use mathlib.Core.List.{[], ◌∷◌}
use Prim.Native.Nat.{ℕ, ◌≤◌}
use borrow.Author.Tests.{not-false, eqb-true, ltb-false}
use lib.Dec.{eqb, ltb}
use lib.ListN.{length}
use Rattle.laws.specs.Rows.{Given}
use Rattle.laws.proofs.RowLaws.{first-none}
use Rattle.laws.proofs.TestLaws.{neither}
use Rattle.refusals.specs.Columns.{line_limit, at_most}
use Rattle.std.specs.Prelude.{Ok, Err}
use Rattle.refusals.specs.declared.Refusal.{Refusal}
use Rattle.refusals.specs.Numbers.{said}
use Rattle.refusals.proofs.VerdictLaws.{same-said, refused_number}
use Rattle.refusals.proofs.LeftLaws.{left-number, left-accepted}
use Rattle.letters.specs.Categories.{Zs}
use Rattle.letters.specs.Actions.{repeating}
use Rattle.runs.specs.Records.{Columns}
use Rattle.copying.specs.Pasted.{EvenLine, Roomy}
use Rattle.stretching.specs.Stretching.{stretched_limit, StretchRequest, StretchOutcome, stretch_outcome, new_line, laid_over, unequal, shorter, stretch_refusal, Answer, length_said, Stretching}

-- ---- an answer is known by what it says
pub same_answer : (r u : Answer) → said r ≡ said u → length_said r ≡ length_said u → r ≡ u
same_answer (Ok n) (Ok m) e f = ap (λ (x : ℕ). Ok x) f
same_answer (Ok n) (Err k) e f = absurd (refused_number k (sym e))
same_answer (Err k) (Ok n) e f = absurd (refused_number k e)
same_answer (Err k) (Err l) e f =
    let v = same-said (Err k) (Err l) e in
    let same : k ≡ l = cc in
    ap (λ (x : Refusal). Err x) same

-- ---- what a call leaves
module _ (q : StretchRequest) (output : Columns) (r : Answer) (left : Columns) (x : Stretching q output r left) where
  abbrev old : StretchOutcome
  old = stretch_outcome 0 output

  abbrev new : StretchOutcome
  new = stretch_outcome (length (new_line q)) (laid_over (new_line q) output)

  pub number-given : said r ≡ stretch_refusal stretched_limit q output
  number-given = left-number (stretch_refusal stretched_limit q output) old new (said r) (stretch_outcome (length_said r) left) x

  pub accepted-left : said r ≡ 0 → (left ≡ laid_over (new_line q) output) × (length_said r ≡ length (new_line q))
  accepted-left z =
      let g = left-accepted (stretch_refusal stretched_limit q output) old new (said r) (stretch_outcome (length_said r) left) x z in
      (ap (λ (o : StretchOutcome). o.output) g, ap (λ (o : StretchOutcome). o.count) g)

-- ---- a request that is not refused
-- a line whose columns are of one length
pub evenly : (c : Columns) → unequal c ≡ false → EvenLine c
evenly c z =
    let n = length c.actions in
    let a = neither (not (eqb (length c.glyphs) n)) _ z in
    let b = neither (not (eqb (length c.widths) n)) _ a.1 in
    let d = neither (not (eqb (length c.categories) n)) _ b.1 in
    let e = neither (not (eqb (length c.ignorables) n)) _ d.1 in
    let f = neither (not (eqb (length c.advances) n)) _ e.1 in
    record {
      even_glyphs = eqb-true _ n (not-false _ a.0);
      even_widths = eqb-true _ n (not-false _ b.0);
      even_categories = eqb-true _ n (not-false _ d.0);
      even_ignorables = eqb-true _ n (not-false _ e.0);
      even_advances = eqb-true _ n (not-false _ f.0);
      even_offsets = eqb-true _ n (not-false _ f.1);
    }

-- an output that has room for n records
has_room : (n : ℕ) (c : Columns) → shorter n c ≡ false → Roomy n c
has_room n c z =
    let a = neither (ltb (length c.glyphs) n) _ z in
    let b = neither (ltb (length c.widths) n) _ a.1 in
    let d = neither (ltb (length c.categories) n) _ b.1 in
    let e = neither (ltb (length c.ignorables) n) _ d.1 in
    let f = neither (ltb (length c.actions) n) _ e.1 in
    let g = neither (ltb (length c.advances) n) _ f.1 in
    record {
      for_glyphs = ltb-false _ n a.0;
      for_widths = ltb-false _ n b.0;
      for_categories = ltb-false _ n d.0;
      for_ignorables = ltb-false _ n e.0;
      for_actions = ltb-false _ n f.0;
      for_advances = ltb-false _ n g.0;
      for_offsets = ltb-false _ n g.1;
    }

-- of the rows that stretching uses, none applies
pub record Allowed (q : StretchRequest) (output : Columns) : Type 0 where
  pub even : EvenLine q.line
  pub few : length q.line.actions ≤ line_limit
  pub known : at_most repeating q.line.actions ≡ true
  pub not-over : length (new_line q) ≤ stretched_limit
  pub room : Roomy (length (new_line q)) output

pub allowed : (q : StretchRequest) (output : Columns) → stretch_refusal stretched_limit q output ≡ 0 → Allowed q output
unfolding stretch_refusal
allowed q output z =
    let n = length (new_line q) in
    let strange = not (at_most Zs q.line.categories && at_most repeating q.line.actions) in
    let eight = Given 8 (shorter n output) ∷ [] in
    let six = Given 6 (ltb stretched_limit n) ∷ eight in
    let three = Given 3 strange ∷ six in
    let uneven-not = first-none 0 (unequal q.line) (Given 2 (ltb line_limit (length q.line.actions)) ∷ three) z in
    let long-not = first-none 1 (ltb line_limit (length q.line.actions)) three uneven-not.1 in
    let strange-not = first-none 2 strange six long-not.1 in
    let over-not = first-none 5 (ltb stretched_limit n) eight strange-not.1 in
    record {
      even = evenly q.line uneven-not.0;
      known = ((and-eq-true_iff (at_most Zs q.line.categories) (at_most repeating q.line.actions)).0 (not-false _ strange-not.0)).1;
      few = ltb-false line_limit (length q.line.actions) long-not.0;
      not-over = ltb-false stretched_limit n over-not.0;
      room = has_room n output (first-none 7 (shorter n output) [] over-not.1).0;
    }
