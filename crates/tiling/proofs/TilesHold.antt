-- The promises of how many copies a run has, and of where its tiles stand, hold.
-- Assumes nothing.
use mathlib.Core.Path.{◌≡◌, refl, sym, ap, ap₂, ◌∙◌}
use mathlib.Core.Bool.{Bool, true, false, cond, not, ◌&&◌, true≢false}
use mathlib.Core.List.{List, [], ◌∷◌}
use Prim.Native.Nat.{ℕ, zero, suc, ◌+◌, ◌*◌, ◌<◌}
use native.Mathlib.Omega.{arith}
use lib.ListN.{length, get_or, drop, length-drop, get_or-append}
use lib.Seq.{get_or-drop}
use lib.IntN.{ℤ, pos}
use Rattle.laws.specs.Lists.{behind}
use Rattle.laws.proofs.ListLaws.{front-behind, length-parted}
use Rattle.runs.specs.Records.{Record, Columns, record_at}
use Rattle.runs.specs.Runs.{is_tile, run, room, repeating_width, tiles, copies_of, start_of}
use Rattle.runs.specs.Stretched.{in_order, part_of, work, run_pieces, placed, placed_run, worked, stretched}
use Rattle.runs.proofs.RecordLaws.{blank, get_d_listed, get_d_in_order, spot-below, order-twice, length-work, length_in_order, work-at}
use Rattle.runs.proofs.StretchedLaws.{length-placed}
use Rattle.refusals.specs.Numbers.{said}
use Rattle.stretching.specs.Stretching.{StretchRequest, Answer, length_said, Stretching}
use Rattle.demands.specs.Stretching.{records}
use Rattle.tiling.specs.Tiles.{total, tile_first, begins, Copied, Lapped, Numbered, OneNumber, added_at, CountByPlaces, comes, OthersCome, TilesStand}
use Rattle.demands.proofs.StretchingHolds.{count_left, records-left, line-recorded, count-added}
use Rattle.tiling.proofs.CoverLaws.{Reckoned, covers_one, run-reckoned}
use Rattle.tiling.proofs.TileLaws.{total-same, added_here, added-places, plain_at, run_at, run-stands}

-- ---- the numbers of a run
abbrev Run : List Record → ℕ → ℕ → Type 0
Run l c o = Reckoned (room l) (repeating_width l) (tiles l) c o

both : (l : List Record) (c o d p : ℕ) → Run l c o → Copied l d → Lapped l d p → (d ≡ c) × (p ≡ o)
both l c o d p x v k =
    let e = covers_one (room l) (repeating_width l) (tiles l) c d x.covers v in
    (e, x.only p (rw e at k))

pub one_number : OneNumber
one_number l =
    let n = run-reckoned l in
    (n.0, n.1, n.2.covers, n.2.laps, λ d p v k. both l n.0 n.1 d p n.2 v k)

-- numbers that the promises name are those that are reckoned
named : (l : List Record) (c o : ℕ) → Copied l c → Lapped l c o → Run l c o
named l c o v k =
    let n = run-reckoned l in
    let e = both l n.0 n.1 c o n.2 v k in
    rw (e.0, e.1) n.2

-- ---- how many records
copies-named : (l : List Record) (c : ℕ) → Copied l c → copies_of l ≡ c
copies-named l c v =
    let n = run-reckoned l in
    n.2.copies_are ∙ covers_one (room l) (repeating_width l) (tiles l) c n.0 v n.2.covers

added-named : (l : List Record) (copies : ℕ → ℕ) → Numbered l copies → (i : ℕ) → added_here l i ≡ added_at l copies i
added-named l copies h i = go (begins l i) refl
  where
    go : (b : Bool) → begins l i ≡ b → cond b (copies_of (drop i l) * tiles (drop i l)) 0 ≡ cond b (copies i * tiles (drop i l)) 0
    go true e = ap (λ (c : ℕ). c * tiles (drop i l)) (copies-named (drop i l) (copies i) (h i e))
    go false e = refl

sum-named : (l : List Record) (copies : ℕ → ℕ) → Numbered l copies → (n : ℕ) → total (added_here l) n ≡ total (added_at l copies) n
sum-named l copies h n = total-same (added_here l) (added_at l copies) n (λ i b. added-named l copies h i)

pub count-by-places : CountByPlaces
count-by-places q output r left x z e copies h =
    let w = work q.rtl q.line in
    let n = length-work q.rtl q.line in
    count-added q output r left x z e
    ∙ ap (λ (k : ℕ). length q.line.actions + k) (added-places w ∙ ap (total (added_here w)) n ∙ sum-named w copies h (length q.line.actions))

-- ---- where tiles stand
-- a run that begins at a place has a tile
and_second : (a b : Bool) → a && b ≡ true → b ≡ true
and_second true b e = e
and_second false b e = absurd (true≢false (sym e))

tile-first : (l : List Record) (i : ℕ) → begins l i ≡ true → tile_first (drop i l) ≡ true
tile-first l zero e = e
tile-first l (suc i) e = and_second (not (tile_first (drop i l))) (tile_first (drop (suc i) l)) e

run-some : (l : List Record) → tile_first l ≡ true → 0 < length (run l)
run-some [] e = absurd (true≢false (sym e))
run-some (r ∷ rs) e = rw e (omega arith)

-- its tiles are the first records
run-first : (l : List Record) (k : ℕ) → k < length (run l) → get_or l k blank ≡ get_or (run l) k blank
run-first l k h = ap (λ (m : List Record). get_or m k blank) (sym (front-behind is_tile l)) ∙ get_or-append (run l) (behind is_tile l) blank k h

-- a record of the line
line-comes : (rtl : Bool) (c : Columns) (i k : ℕ) → k < length (run (drop i (work rtl c))) → comes rtl (length c.actions) c (i + k) ≡ get_or (run (drop i (work rtl c))) k blank
unfolding part_of
line-comes rtl c i k h =
    let w = work rtl c in
    let b : i + k < length c.actions = omega (arith, h, length-parted is_tile (drop i w), length-drop i w, length-work rtl c) in
    sym (work-at rtl c (i + k) b) ∙ sym (get_or-drop i w k blank) ∙ run-first (drop i w) k h

module _ (q : StretchRequest) (output : Columns) (r : Answer) (left : Columns) (x : Stretching q output r left) (z : said r ≡ 0) (e : q.recorded ≡ true) where
  -- the output, in the order of the work
  worked-left : in_order q.rtl (records (length_said r) left) ≡ worked q.rtl false (work q.rtl q.line)
  unfolding stretched work
  worked-left = ap (in_order q.rtl) (records-left q output r left x z ∙ line-recorded q e) ∙ order-twice q.rtl _

  long-left : length (records (length_said r) left) ≡ length_said r
  long-left = ap length (records-left q output r left x z) ∙ sym (count_left q output r left x z)

  output-comes : (k : ℕ) → k < length (worked q.rtl false (work q.rtl q.line)) → comes q.rtl (length_said r) left k ≡ get_or (worked q.rtl false (work q.rtl q.line)) k blank
  unfolding part_of
  output-comes k h =
      let m = records (length_said r) left in
      let b : k < length m = omega (arith, h, ap length worked-left, length_in_order q.rtl m) in
      sym (ap (λ (l : List Record). get_or l k blank) (sym worked-left)
      ∙ get_d_in_order q.rtl m k blank b
      ∙ ap (λ (n : ℕ). get_or m (part_of q.rtl n k 1) blank) long-left
      ∙ get_d_listed (record_at left) (length_said r) (part_of q.rtl (length_said r) k 1) blank (spot-below q.rtl (length_said r) k (omega (arith, b, long-left))))

pub others_come : OthersCome
unfolding part_of
others_come q output r left x z e copies h i b f =
    let w = work q.rtl q.line in
    let a = plain_at q.rtl w i (omega (arith, b, length-work q.rtl q.line)) f in
    ap (λ (s : ℕ). comes q.rtl (length_said r) left (i + s)) (sym (sum-named w copies h i))
    ∙ output-comes q output r left x z e (i + total (added_here w) i) a.0
    ∙ a.1
    ∙ work-at q.rtl q.line i b

pub tiles_stand : TilesStand
unfolding placed_run
tiles_stand q output r left x z e copies h i b o k =
    let w = work q.rtl q.line in
    let l = drop i w in
    let n : Run l (copies i) o = named l (copies i) o (h i b) k in
    let same : placed_run q.rtl l ≡ placed q.rtl (start_of l) (run_pieces (copies i) (pos o) (run l)) =
    ap₂ (λ (c : ℕ) (v : ℤ). placed q.rtl (start_of l) (run_pieces c v (run l))) n.copies_are n.overlap-is
    in
    rw n.start_is at
    (run-stands q.rtl (length (run l)) (copies i) o (start_of l) (run l) _ _ refl (run-some l (tile-first w i b)) (line-comes q.rtl q.line i)
    (λ j g.
    let f : j < length (placed_run q.rtl l) = rw same (omega (arith, g, length-placed q.rtl (start_of l) (run_pieces (copies i) (pos o) (run l)))) in
    let a = run_at q.rtl w i b j f in
    ap (λ (s : ℕ). comes q.rtl (length_said r) left (i + s + j)) (sym (sum-named w copies h i))
    ∙ output-comes q output r left x z e (i + total (added_here w) i + j) a.0
    ∙ a.1
    ∙ ap (λ (m : List Record). get_or m j blank) same))
