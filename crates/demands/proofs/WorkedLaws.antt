-- Of the stretched line, as a list of records: `Every` that each record has a property (`every_more`, `every_in_order`, `every-at`); its records that are no tiles (`plain-stretched`); what its records keep (`kept-stretched`), and that some record of the line has it (`Among`, `among-stretched`, `among-itself`);
-- the advances of its tiles (`Still`, `still-stretched`); a line without tiles (`none-stretched`); the other direction (`turned-stretched`); the records that columns begin with (`records-glued`).
-- Assumes nothing.
use mathlib.Core.Path.{◌≡◌, refl, sym, ap, ap₂, ◌∙◌}
use mathlib.Core.Bool.{Bool, true, false, cond, not, true≢false}
use mathlib.Core.List.{List, [], ◌∷◌, ◌++◌, map, map-append, reverse, reverse_aux, reverse-reverse}
use Prim.Native.Nat.{ℕ, zero, suc, ◌<◌}
use native.Mathlib.Omega.{arith}
use lib.ListN.{length, get_or, replicate}
use lib.IntN.{ℤ, pos}
use Rattle.laws.specs.Lists.{those}
use Rattle.laws.proofs.ListLaws.{those-append}
use Rattle.letters.specs.Actions.{repeating}
use Rattle.runs.specs.declared.Tile.{Tile}
use Rattle.runs.specs.Records.{Record, Columns, columns, columns_of, listed, kept, put}
use Rattle.runs.specs.Runs.{acts, tile_action, is_tile, is_plain, run, copies_of, overlap_of, start_of}
use Rattle.runs.specs.Stretched.{Piece, piece, pieces, copies_for, run_pieces, in_order, next, placed, placed_run, worked, stretched}
use Rattle.runs.proofs.RecordLaws.{blank, order-twice, map_in_order}
use Rattle.demands.specs.Stretching.{records, times, repeated, unplaced}

-- ---- lists
module _ {A : Type 0} (p : A → Bool) where
  those-onto : (l r : List A) → those p (reverse_aux l r) ≡ reverse_aux (those p l) (those p r)
  those-onto [] r = refl
  those-onto (x ∷ l) r = those-onto l (x ∷ r) ∙ go (p x)
    where
      go : (t : Bool) → reverse_aux (those p l) (cond t (x ∷ those p r) (those p r)) ≡ reverse_aux (cond t (x ∷ those p l) (those p l)) (those p r)
      go true = refl
      go false = refl

  those_in_order : (rtl : Bool) (l : List A) → those p (in_order rtl l) ≡ in_order rtl (those p l)
  unfolding in_order
  those_in_order true l = those-onto l []
  those_in_order false l = refl

-- each element has a property
module _ {A : Type 0} (P : A → Type 0) where
  abbrev pub Every : List A → Type 0
  Every [] = Unit
  Every (x ∷ l) = P x × Every l

  pub every_append : (x y : List A) → Every x → Every y → Every (x ++ y)
  every_append [] y e f = f
  every_append (a ∷ x) y e f = (e.0, every_append x y e.1 f)

  every-replicate : (n : ℕ) (a : A) → P a → Every (replicate n a)
  every-replicate zero a e = tt
  every-replicate (suc n) a e = (e, every-replicate n a e)

  pub every-onto : (l r : List A) → Every l → Every r → Every (reverse_aux l r)
  every-onto [] r e f = f
  every-onto (x ∷ l) r e f = every-onto l (x ∷ r) e.1 (e.0, f)

  pub every_in_order : (rtl : Bool) (l : List A) → Every l → Every (in_order rtl l)
  unfolding in_order
  every_in_order true l e = every-onto l [] e tt
  every_in_order false l e = e

  pub every-at : (l : List A) (d : A) (i : ℕ) → Every l → i < length l → P (get_or l i d)
  every-at [] d i e h = absurd (omega arith)
  every-at (x ∷ l) d zero e h = e.0
  every-at (x ∷ l) d (suc i) e h = every-at l d i e.1 (omega arith)

pub every_more : {A : Type 0} (P Q : A → Type 0) → ((x : A) → P x → Q x) → (l : List A) → Every P l → Every Q l
every_more P Q f [] e = tt
every_more P Q f (x ∷ l) e = (f x e.0, every_more P Q f l e.1)

-- ---- records that are no tiles
abbrev OfTile : Piece → Type 0
OfTile p = tile_action p.of.action ≡ true

pieces-of-tiles : (copies : ℕ) (overlap : ℤ) (l : List Record) → Every OfTile (run_pieces copies overlap (run l))
unfolding run_pieces pieces
pieces-of-tiles copies overlap [] = tt
pieces-of-tiles copies overlap (r ∷ rs) = go (is_tile r) refl (pieces-of-tiles copies overlap rs)
  where
    go : (t : Bool) → is_tile r ≡ t → Every OfTile (run_pieces copies overlap (run rs)) → Every OfTile (run_pieces copies overlap (cond t (r ∷ run rs) []))
    go true e h = every_append OfTile (pieces (copies_for copies r) overlap (kept r)) _ (e, every-replicate OfTile (copies_for copies r) (piece (kept r) overlap) e) h
    go false e h = tt

plain-placed : (rtl : Bool) (x : ℤ) (ps : List Piece) → Every OfTile ps → those is_plain (placed rtl x ps) ≡ []
unfolding placed
plain-placed rtl x [] e = refl
plain-placed rtl x (p ∷ ps) e = rw e.0 (plain-placed rtl (next rtl x p) ps e.1)

plain-worked : (rtl inside : Bool) (l : List Record) → those is_plain (worked rtl inside l) ≡ those is_plain l
unfolding worked placed_run
plain-worked rtl inside [] = refl
plain-worked rtl inside (r ∷ rs) = go (is_tile r) refl inside (plain-worked rtl true rs) (plain-worked rtl false rs)
  where
    go : (t : Bool) → is_tile r ≡ t → (i : Bool) → those is_plain (worked rtl true rs) ≡ those is_plain rs → those is_plain (worked rtl false rs) ≡ those is_plain rs
        → those is_plain (cond t (cond i [] (placed_run rtl (r ∷ rs)) ++ worked rtl true rs) (r ∷ worked rtl false rs)) ≡ cond (not t) (r ∷ those is_plain rs) (those is_plain rs)
    go true e true h g = h
    go true e false h g =
        let l = r ∷ rs in
        those-append is_plain (placed_run rtl l) (worked rtl true rs)
        ∙ ap₂ (λ (x y : List Record). x ++ y) (plain-placed rtl (start_of l) _ (pieces-of-tiles (copies_of l) (overlap_of l) l)) h
    go false e i h g = rw e (ap (λ (l : List Record). r ∷ l) g)

pub plain-stretched : (rtl : Bool) (l : List Record) → those is_plain (stretched rtl l) ≡ those is_plain l
unfolding stretched
plain-stretched rtl l =
    those_in_order is_plain rtl _
    ∙ ap (in_order rtl) (plain-worked rtl false (in_order rtl l) ∙ those_in_order is_plain rtl l)
    ∙ order-twice rtl (those is_plain l)

-- ---- what records keep
abbrev of_each : List Piece → List Tile
of_each ps = map (λ (p : Piece). p.of) ps

kept-placed : (rtl : Bool) (x : ℤ) (ps : List Piece) → map kept (placed rtl x ps) ≡ of_each ps
unfolding placed
kept-placed rtl x [] = refl
kept-placed rtl x (p ∷ ps) = ap (λ (l : List Tile). p.of ∷ l) (kept-placed rtl (next rtl x p) ps)

-- a tile of a run and its copies, before the rest of the run
kept-copies : (n : ℕ) (p : Piece) (ps : List Piece) (rest : List Tile) → replicate n p.of ++ (of_each ps ++ rest) ≡ of_each (replicate n p ++ ps) ++ rest
kept-copies zero p ps rest = refl
kept-copies (suc n) p ps rest = ap (λ (l : List Tile). p.of ∷ l) (kept-copies n p ps rest)

times-copies : (copies : ℕ) (r : Record) → times copies r ≡ suc (copies_for copies r)
times-copies copies r = go (acts repeating r) refl
  where
    go : (t : Bool) → acts repeating r ≡ t → times copies r ≡ suc (copies_for copies r)
    go true e = rw e (omega arith)
    go false e = rw e

kept_pieces :
    (copies : ℕ) (overlap : ℤ) (r : Record) (ps : List Piece) (rest : List Tile)
    → replicate (times copies r) (kept r) ++ (of_each ps ++ rest) ≡ of_each (pieces (copies_for copies r) overlap (kept r) ++ ps) ++ rest
unfolding pieces
kept_pieces copies overlap r ps rest =
    ap (λ (n : ℕ). replicate n (kept r) ++ (of_each ps ++ rest)) (times-copies copies r)
    ∙ ap (λ (l : List Tile). kept r ∷ l) (kept-copies (copies_for copies r) (piece (kept r) overlap) ps rest)

module _ (rtl : Bool) where
  -- inside a run its tiles are still to come here, and have been placed there
  kept-worked :
      (l : List Record)
      → ((copies : ℕ) (overlap : ℤ) → repeated true copies l ≡ of_each (run_pieces copies overlap (run l)) ++ map kept (worked rtl true l))
      × ((copies : ℕ) → repeated false copies l ≡ map kept (worked rtl false l))
  unfolding worked run_pieces placed_run
  kept-worked [] = (λ copies overlap. refl, λ copies. refl)
  kept-worked (r ∷ rs) = go (is_tile r) refl (kept-worked rs).0 (kept-worked rs).1
    where
      go : (t : Bool) → is_tile r ≡ t
          → ((copies : ℕ) (overlap : ℤ) → repeated true copies rs ≡ of_each (run_pieces copies overlap (run rs)) ++ map kept (worked rtl true rs))
          → ((copies : ℕ) → repeated false copies rs ≡ map kept (worked rtl false rs))
          → ((copies : ℕ) (overlap : ℤ) → cond t (replicate (times copies r) (kept r) ++ repeated true copies rs) (kept r ∷ repeated false 0 rs)
          ≡ of_each (run_pieces copies overlap (cond t (r ∷ run rs) [])) ++ map kept (cond t ([] ++ worked rtl true rs) (r ∷ worked rtl false rs)))
          × ((copies : ℕ) → cond t (replicate (times (copies_of (r ∷ rs)) r) (kept r) ++ repeated true (copies_of (r ∷ rs)) rs) (kept r ∷ repeated false 0 rs)
          ≡ map kept (cond t (placed_run rtl (r ∷ rs) ++ worked rtl true rs) (r ∷ worked rtl false rs)))
      go true e h g = (λ copies overlap. one copies overlap, λ copies. first)
        where
          one : (copies : ℕ) (overlap : ℤ) → replicate (times copies r) (kept r) ++ repeated true copies rs
              ≡ of_each (pieces (copies_for copies r) overlap (kept r) ++ run_pieces copies overlap (run rs)) ++ map kept (worked rtl true rs)
          one copies overlap =
              ap (λ (l : List Tile). replicate (times copies r) (kept r) ++ l) (h copies overlap)
              ∙ kept_pieces copies overlap r (run_pieces copies overlap (run rs)) (map kept (worked rtl true rs))

          first : replicate (times (copies_of (r ∷ rs)) r) (kept r) ++ repeated true (copies_of (r ∷ rs)) rs ≡ map kept (placed_run rtl (r ∷ rs) ++ worked rtl true rs)
          first =
              let l = r ∷ rs in
              let tiles : run l ≡ r ∷ run rs = rw e in
              one (copies_of l) (overlap_of l)
              ∙ sym (map-append kept (placed_run rtl l) (worked rtl true rs)
              ∙ ap (λ (m : List Tile). m ++ map kept (worked rtl true rs)) (kept-placed rtl (start_of l) _ ∙ ap (λ (m : List Record). of_each (run_pieces (copies_of l) (overlap_of l) m)) tiles))
      go false e h g = (λ copies overlap. ap (λ (l : List Tile). kept r ∷ l) (g 0), λ copies. ap (λ (l : List Tile). kept r ∷ l) (g 0))

pub kept-stretched : (rtl : Bool) (l : List Record) → map kept (in_order rtl (stretched rtl l)) ≡ repeated false 0 (in_order rtl l)
unfolding stretched
kept-stretched rtl l = ap (map kept) (order-twice rtl (worked rtl false (in_order rtl l))) ∙ sym ((kept-worked rtl (in_order rtl l)).1 0)

-- they are those of a record of a list
abbrev pub Among : List Record → Tile → Type 0
Among l t = (j : ℕ) × (j < length l) × (t ≡ kept (get_or l j blank))

among-more : (r : Record) (rs : List Record) (t : Tile) → Among rs t → Among (r ∷ rs) t
among-more r rs t a = (suc a.0, omega (arith, a.1), a.2)

kept-among : (inside : Bool) (copies : ℕ) (l : List Record) → Every (Among l) (repeated inside copies l)
kept-among inside copies [] = tt
kept-among inside copies (r ∷ rs) =
    let n : ℕ = cond inside copies (copies_of (r ∷ rs)) in
    go (is_tile r) n (all_more (repeated true n rs) (kept-among true n rs)) (all_more (repeated false 0 rs) (kept-among false 0 rs))
  where
    all_more : (ts : List Tile) → Every (Among rs) ts → Every (Among (r ∷ rs)) ts
    all_more ts e = every_more (Among rs) (Among (r ∷ rs)) (among-more r rs) ts e

    first : Among (r ∷ rs) (kept r)
    first = (0, omega arith, refl)

    go : (t : Bool) (n : ℕ) → Every (Among (r ∷ rs)) (repeated true n rs) → Every (Among (r ∷ rs)) (repeated false 0 rs)
        → Every (Among (r ∷ rs)) (cond t (replicate (times n r) (kept r) ++ repeated true n rs) (kept r ∷ repeated false 0 rs))
    go true n h g = every_append (Among (r ∷ rs)) (replicate (times n r) (kept r)) _ (every-replicate (Among (r ∷ rs)) (times n r) (kept r) first) h
    go false n h g = (first, g)

every_map : {A B : Type 0} (f : A → B) (P : B → Type 0) (l : List A) → Every P (map f l) → Every (λ (x : A). P (f x)) l
every_map f P [] e = tt
every_map f P (x ∷ l) e = (e.0, every_map f P l e.1)

pub among-stretched : (rtl : Bool) (l : List Record) → Every (λ (r : Record). Among (in_order rtl l) (kept r)) (stretched rtl l)
unfolding stretched
among-stretched rtl l =
    every_in_order (λ (r : Record). Among (in_order rtl l) (kept r)) rtl (worked rtl false (in_order rtl l))
    (every_map kept (Among (in_order rtl l)) (worked rtl false (in_order rtl l)) (rw (← (kept-worked rtl (in_order rtl l)).1 0) (kept-among false 0 (in_order rtl l))))

-- a line's own records are
pub among-itself : (l : List Record) → Every (λ (r : Record). Among l (kept r)) l
among-itself [] = tt
among-itself (r ∷ rs) =
    ((0, omega arith, refl), every_more (λ (t : Record). Among rs (kept t)) (λ (t : Record). Among (r ∷ rs) (kept t)) (λ t. among-more r rs (kept t)) rs (among-itself rs))

-- ---- the advances of tiles
abbrev pub Still : Record → Type 0
Still r = is_tile r ≡ true → r.advance ≡ pos 0

still_placed : (rtl : Bool) (x : ℤ) (ps : List Piece) → Every Still (placed rtl x ps)
unfolding placed
still_placed rtl x [] = tt
still_placed rtl x (p ∷ ps) = (λ e. refl, still_placed rtl (next rtl x p) ps)

still-worked : (rtl inside : Bool) (l : List Record) → Every Still (worked rtl inside l)
unfolding worked placed_run
still-worked rtl inside [] = tt
still-worked rtl inside (r ∷ rs) = go (is_tile r) refl inside (still-worked rtl true rs) (still-worked rtl false rs)
  where
    go : (t : Bool) → is_tile r ≡ t → (i : Bool) → Every Still (worked rtl true rs) → Every Still (worked rtl false rs)
        → Every Still (cond t (cond i [] (placed_run rtl (r ∷ rs)) ++ worked rtl true rs) (r ∷ worked rtl false rs))
    go true e true h g = h
    go true e false h g = every_append Still (placed_run rtl (r ∷ rs)) (worked rtl true rs) (still_placed rtl _ _) h
    go false e i h g = (λ f. absurd (true≢false (sym f ∙ e)), g)

pub still-stretched : (rtl : Bool) (l : List Record) → Every Still (stretched rtl l)
unfolding stretched
still-stretched rtl l = every_in_order Still rtl _ (still-worked rtl false (in_order rtl l))

-- ---- a line without tiles
worked-none : (rtl inside : Bool) (l : List Record) → those is_tile l ≡ [] → worked rtl inside l ≡ l
unfolding worked
worked-none rtl inside [] z = refl
worked-none rtl inside (r ∷ rs) z = go (is_tile r) z (worked-none rtl false rs)
  where
    go : (t : Bool) → cond t (r ∷ those is_tile rs) (those is_tile rs) ≡ [] → (those is_tile rs ≡ [] → worked rtl false rs ≡ rs)
        → cond t (cond inside [] (placed_run rtl (r ∷ rs)) ++ worked rtl true rs) (r ∷ worked rtl false rs) ≡ r ∷ rs
    go true z h =
        let n : suc (length (those is_tile rs)) ≡ 0 = ap length z in
        absurd (omega (arith, n))
    go false z h = ap (λ (l : List Record). r ∷ l) (h z)

pub none-stretched : (rtl : Bool) (l : List Record) → those is_tile l ≡ [] → stretched rtl l ≡ l
unfolding stretched in_order
none-stretched true l z = ap reverse (worked-none true false (reverse l) (those_in_order is_tile true l ∙ ap reverse z)) ∙ reverse-reverse l
none-stretched false l z = worked-none false false l z

-- ---- the two directions
unplaced-placed : (rtl : Bool) (x : ℤ) (ps : List Piece) → map unplaced (placed rtl x ps) ≡ map (λ (p : Piece). put p.of (pos 0) (pos 0)) ps
unfolding placed
unplaced-placed rtl x [] = refl
unplaced-placed rtl x (p ∷ ps) = ap (λ (l : List Record). put p.of (pos 0) (pos 0) ∷ l) (unplaced-placed rtl (next rtl x p) ps)

unplaced-worked : (rtl other inside : Bool) (l : List Record) → map unplaced (worked rtl inside l) ≡ map unplaced (worked other inside l)
unfolding worked placed_run
unplaced-worked rtl other inside [] = refl
unplaced-worked rtl other inside (r ∷ rs) = go (is_tile r) inside (unplaced-worked rtl other true rs) (unplaced-worked rtl other false rs)
  where
    go : (t i : Bool) → map unplaced (worked rtl true rs) ≡ map unplaced (worked other true rs) → map unplaced (worked rtl false rs) ≡ map unplaced (worked other false rs)
        → map unplaced (cond t (cond i [] (placed_run rtl (r ∷ rs)) ++ worked rtl true rs) (r ∷ worked rtl false rs))
        ≡ map unplaced (cond t (cond i [] (placed_run other (r ∷ rs)) ++ worked other true rs) (r ∷ worked other false rs))
    go true true h g = h
    go true false h g =
        map-append unplaced (placed_run rtl (r ∷ rs)) (worked rtl true rs)
        ∙ ap₂ (λ (x y : List Record). x ++ y) (unplaced-placed rtl _ _ ∙ sym (unplaced-placed other _ _)) h
        ∙ sym (map-append unplaced (placed_run other (r ∷ rs)) (worked other true rs))
    go false i h g = ap (λ (l : List Record). unplaced r ∷ l) g

map_turned : (l : List Record) → map unplaced (reverse l) ≡ reverse (map unplaced l)
unfolding in_order
map_turned l = map_in_order unplaced true l

pub turned-stretched : (rtl : Bool) (l : List Record) → map unplaced (stretched (not rtl) l) ≡ reverse (map unplaced (stretched rtl (reverse l)))
unfolding stretched in_order
turned-stretched true l =
    unplaced-worked false true false l
    ∙ sym (
    ap reverse (map_turned (worked true false (reverse (reverse l))))
    ∙ reverse-reverse (map unplaced (worked true false (reverse (reverse l))))
    ∙ ap (λ (m : List Record). map unplaced (worked true false m)) (reverse-reverse l))
turned-stretched false l = map_turned (worked true false (reverse l)) ∙ ap reverse (unplaced-worked true false false (reverse l))

-- ---- columns that begin with records
abbrev glued : List Record → Columns → Columns
glued l rest =
    columns
    ((columns_of l).glyphs ++ rest.glyphs)
    ((columns_of l).widths ++ rest.widths)
    ((columns_of l).categories ++ rest.categories)
    ((columns_of l).ignorables ++ rest.ignorables)
    ((columns_of l).actions ++ rest.actions)
    ((columns_of l).advances ++ rest.advances)
    ((columns_of l).offsets ++ rest.offsets)

pub records-glued : (l : List Record) (rest : Columns) → records (length l) (glued l rest) ≡ l
unfolding listed
records-glued [] rest = refl
records-glued (r ∷ l) rest = ap (λ (m : List Record). r ∷ m) (records-glued l rest)
