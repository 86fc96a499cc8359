-- What a new letter can alter: `Touches` the records that are reached from its place or from a letter beside it, as a relation, and that `touched` tests
-- just this (`touched_touches`, `touches_touched`). The letter at a place does not count for what is touched from there (`touches_own`); seen from another
-- place it counts only for records that it touches itself (`touches_other`). So a record that a new letter does not touch keeps the action
-- that joining afresh gives it (`untouched_action`, `untouched_mask`), and stays touched or not from every other place (`untouched_touched`).
-- Assumes nothing.
use mathlib.Core.Path.{◌≡◌, refl, sym, ap, ◌∙◌}
use mathlib.Core.Bool.{Bool, true, false, cond, ◌&&◌, and-eq-true_iff, false≢true}
use mathlib.Core.List.{List}
use mathlib.Core.Logic.{◌⊎◌, inl, inr, ⊎_elim, by_cases}
use Prim.Native.Nat.{ℕ, suc, ◌+◌, ◌-◌, ◌<◌, ◌≤◌}
use native.Mathlib.Nat.{eq-or-lt_of_le}
use native.Mathlib.Decide.{dec_le, dec_lt}
use native.Mathlib.Omega.{arith}
use borrow.Author.Tests.{leb-true, le-leb}
use lib.Dec.{leb}
use lib.ListN.{length, get_or, drop, set, length-set}
use lib.Seq.{get_or-drop, get_or-set_other}
use Rattle.laws.proofs.TestLaws.{either, either-made, same_truth}
use Rattle.refusals.proofs.ColumnLaws.{at_most-at}
use Rattle.shapes.specs.Joining.{form, each_between}
use Rattle.shapes.specs.Places.{place_before, place_behind}
use Rattle.shapes.proofs.JoiningLaws.{form-transparent, each-most, length-each, line_types-set}
use Rattle.shapes.proofs.PlaceLaws.{Beside, each_set, before-beside, beside-before, behind-beside, beside-behind}
use Rattle.letters.specs.Types.{resolved}
use Rattle.letters.specs.Actions.{none}
use Rattle.selectors.specs.Selectors.{selector, run}
use Rattle.selectors.proofs.RunLaws.{marked, Reaches, Rests, run-all, run-most, rests, settled-rests}
use Rattle.masks.specs.Masks.{mask, masks}
use Rattle.masks.proofs.MaskLaws.{masks-at}
use Rattle.lines.specs.declared.Frame.{Frame}
use Rattle.lines.specs.Held.{Line}
use Rattle.lines.specs.Joined.{types_of, fresh_actions}
use Rattle.lines.proofs.LineLaws.{length-fresh}
use Rattle.renewing.specs.Renewed.{reached, touched}
use Rattle.replacing.specs.Replaced.{Request, changed}

-- record j is reached from the letter at p, or from one beside it
pub record Touches (s : ℕ → Bool) (ts : List ℕ) (p j : ℕ) : Type 0 where
  pub root : ℕ
  pub near : (root ≡ p) ⊎ Beside ts p root
  pub reaches : Reaches s root j

-- the records of a line that are marked, and those that are touched from p
abbrev pub marks : Frame → Line → ℕ → Bool
marks f l = marked f.mongolian l.codes

abbrev pub TouchesIn : Frame → Line → ℕ → ℕ → Type 0
TouchesIn f l p j = Touches (marks f l) (types_of l.letters) p j

-- two bounds are both met, or not
both-or-not : (a b c d : ℕ) → ((a ≤ b) × (c ≤ d)) ⊎ (a ≤ b → c ≤ d → ⊥)
both-or-not a b c d = by_cases (dec_le a b) (λ l. by_cases (dec_le c d) (λ h. inl (l, h)) (λ n. inr (λ _ h. n h))) (λ n. inr (λ l _. n l))

-- where a record reaches past p, the rest of its run is p's own
reaches-past : {s : ℕ → Bool} {k j : ℕ} (p : ℕ) → Reaches s k j → k ≤ p → p ≤ j → Reaches s p j
reaches-past p r l h = record { forward = h; all = λ i m n. r.all i (omega arith) n }

-- ---- two lines that differ at p alone
module _ (ts us : List ℕ) (s u : ℕ → Bool) (p : ℕ) (same : (i : ℕ) → (i ≡ p → ⊥) → get_or us i 0 ≡ get_or ts i 0) (alike : (i : ℕ) → (i ≡ p → ⊥) → u i ≡ s i) where
  pub touches_own : (j : ℕ) → Touches s ts p j → Touches u us p j
  touches_own j t = ⊎_elim own other (both-or-not t.root p p j)
    where
      own : (t.root ≤ p) × (p ≤ j) → Touches u us p j
      own (l, h) =
          record { root = p; near = inl refl; reaches = record { forward = omega arith; all = λ i m n. alike i (λ e. omega arith) ∙ t.reaches.all i (omega arith) n } }

      other : (t.root ≤ p → p ≤ j → ⊥) → Touches u us p j
      other off =
          let on = t.reaches.forward in
          let apart : t.root ≡ p → ⊥ = λ e. off (omega arith) (omega arith) in
          let beside : Beside ts p t.root → Beside us p t.root =
          λ w. record { letter = λ e. w.letter (sym (same t.root apart) ∙ e); before = λ i m n. same i (λ e. omega arith) ∙ w.before i m n; behind = λ i m n. same i (λ e. omega arith) ∙ w.behind i m n }
          in
          record {
            root = t.root;
            near = inr (⊎_elim (λ e. absurd (apart e)) beside t.near);
            reaches = record { forward = on; all = λ i m n. alike i (λ e. off (omega arith) (omega arith)) ∙ t.reaches.all i m n };
          }

  pub touches_other : (q j : ℕ) → Touches u us q j → Touches u us p j ⊎ Touches s ts q j
  touches_other q j t =
      let k = t.root in
      ⊎_elim (own k t.reaches) (other k t.near t.reaches) (both-or-not k p p j)
    where
      own : (k : ℕ) → Reaches u k j → (k ≤ p) × (p ≤ j) → Touches u us p j ⊎ Touches s ts q j
      own k t (l, h) = inl (record { root = p; near = inl refl; reaches = reaches-past p t (omega arith) (omega arith) })

      other : (k : ℕ) → (k ≡ q) ⊎ Beside us q k → Reaches u k j → (k ≤ p → p ≤ j → ⊥) → Touches u us p j ⊎ Touches s ts q j
      other k n₀ t off =
          let on = t.forward in
          let apart : k ≡ p → ⊥ = λ e. off (omega arith) (omega arith) in
          let r : Reaches s k j = record { forward = on; all = λ i m n. sym (alike i (λ e. off (omega arith) (omega arith))) ∙ t.all i m n } in
          let behind : Beside us q k → (k < p) × (p < q) → Touches u us p j =
          λ w (l, h). record { root = k; near = inr (record { letter = w.letter; before = λ i m n. w.before i m (omega arith); behind = λ i m n. absurd (omega arith) }); reaches = t }
          in
          let before : Beside us q k → (q < p) × (p < k) → Touches u us p j =
          λ w (l, h). record { root = k; near = inr (record { letter = w.letter; before = λ i m n. absurd (omega arith); behind = λ i m n. w.behind i (omega arith) n }); reaches = t }
          in
          let beside : Beside us q k → (k < p → p < q → ⊥) → (q < p → p < k → ⊥) → Beside ts q k =
          λ w x y. record { letter = λ e. w.letter (same k apart ∙ e); before = λ i m n. sym (same i (λ e. x (omega arith) (omega arith))) ∙ w.before i m n; behind = λ i m n. sym (same i (λ e. y (omega arith) (omega arith))) ∙ w.behind i m n }
          in
          ⊎_elim
          (λ e. inr (record { root = k; near = inl e; reaches = r }))
          (λ w. ⊎_elim (λ b. inl (behind w b)) (λ x. ⊎_elim (λ b. inl (before w b)) (λ y. inr (record { root = k; near = inr (beside w x y); reaches = r })) (both-or-not (suc q) p (suc p) k)) (both-or-not (suc k) p (suc p) q))
          n₀

-- ---- the tests of the definition
module _ (cs : List ℕ) (k j : ℕ) where
  reached-reaches : (mongolian : Bool) → reached mongolian cs k j ≡ true → Reaches (marked mongolian cs) k j
  reached-reaches mongolian e =
      let n = k + cond mongolian (run (drop (suc k) cs)) 0 in
      let b = (and-eq-true_iff (leb k j) (leb j n)).0 e in
      record { forward = leb-true k j b.0; all = all mongolian (leb-true j n b.1) }
    where
      all : (mongolian : Bool) → j ≤ k + cond mongolian (run (drop (suc k) cs)) 0 → (i : ℕ) → k < i → i ≤ j → marked mongolian cs i ≡ true
      all true h i l m =
          let back : suc k + (i - suc k) ≡ i = omega arith in
          rw (get_or-drop (suc k) cs (i - suc k) 0, back) at (run-all (drop (suc k) cs) (i - suc k) (omega arith))
      all false h i l m = absurd (omega arith)

  reaches-reached : (mongolian : Bool) → Reaches (marked mongolian cs) k j → reached mongolian cs k j ≡ true
  reaches-reached mongolian r = simp (le-leb k j r.forward) (le-leb j _ (far mongolian r))
    where
      far : (mongolian : Bool) → Reaches (marked mongolian cs) k j → j ≤ k + cond mongolian (run (drop (suc k) cs)) 0
      far true r =
          let h = r.forward in
          let most = run-most (drop (suc k) cs) (j - k) (λ i l. rw (get_or-drop (suc k) cs i 0) (r.all (suc k + i) (omega arith) (omega arith))) in
          omega (arith, most)
      far false r = ⊎_elim (λ e. omega arith) (λ l. absurd (false≢true (r.all j l (omega arith)))) (eq-or-lt_of_le r.forward)

module _ (f : Frame) (l : Line) (p j : ℕ) (within : p ≤ length (types_of l.letters)) (on : j < length (types_of l.letters)) where
  pub touched_touches : touched f l p j ≡ true → TouchesIn f l p j
  touched_touches e =
      let ts = types_of l.letters in
      let cs = l.codes in
      let m = f.mongolian in
      let q = place_before ts p in
      let n = place_behind ts p in
      ⊎_elim
      (λ a. record { root = p; near = inl refl; reaches = reached-reaches cs p j m a })
      (⊎_elim
      (λ a. let r = reached-reaches cs q j m a in record { root = q; near = inr (before-beside ts p (omega (arith, r.forward)) within).1; reaches = r })
      (λ a. let r = reached-reaches cs n j m a in record { root = n; near = inr (behind-beside ts p (omega (arith, r.forward))); reaches = r }))
      (either (reached m cs p j) (reached m cs q j) (reached m cs n j) e)

  pub touches_touched : TouchesIn f l p j → touched f l p j ≡ true
  touches_touched t =
      let ts = types_of l.letters in
      let cs = l.codes in
      let m = f.mongolian in
      let k = t.root in
      let near : ℕ → Bool = λ i. reached m cs i j in
      let r : near k ≡ true = reaches-reached cs k j m t.reaches in
      let h = t.reaches.forward in
      let at : (i : ℕ) → i ≡ k → near i ≡ true = λ i e. ap near e ∙ r in
      either-made (near p) (near (place_before ts p)) (near (place_behind ts p))
      (⊎_elim
      (λ e. inl (at p (sym e)))
      (λ w.
      by_cases (dec_lt k p)
      (λ b. inr (inl (at (place_before ts p) (beside-before ts p k b w))))
      (λ b. by_cases (dec_lt p k) (λ g. inr (inr (at (place_behind ts p) (beside-behind ts p k g (omega arith) w)))) (λ g. inl (at p (omega (arith, b, g))))))
      t.near)

-- ---- a line, and the same line with a new letter
-- the action of a record is that of the letter where it rests
fresh-rests :
    (f : Frame) (l : Line) (k j : ℕ) → Rests (marks f l) k j → j < length (types_of l.letters)
    → get_or (fresh_actions f l) j 0 ≡ get_or (each_between form f.before.0 (types_of l.letters) f.behind.0) k 0
fresh-rests f l k j rest h =
    settled-rests f.mongolian l.codes (each_between form f.before.0 (types_of l.letters) f.behind.0) k j rest
    (omega (arith, length-each form f.before.0 (types_of l.letters) f.behind.0))

-- and so it is none above the joined ones
pub fresh-most : (f : Frame) (l : Line) (j : ℕ) → j < length (types_of l.letters) → get_or (fresh_actions f l) j 0 ≤ none
fresh-most f l j h = at (rests (marks f l) j)
  where
    at : ((k : ℕ) × Rests (marks f l) k j) → get_or (fresh_actions f l) j 0 ≤ none
    at (k, rest) =
        rw (fresh-rests f l k j rest h)
        (at_most-at none (each_between form f.before.0 (types_of l.letters) f.behind.0) (each-most f.before.0 (types_of l.letters) f.behind.0) k)

module _ (f : Frame) (r : Request) (l : Line) where
  types-changed : types_of (changed r l).letters ≡ set (types_of l.letters) r.place (resolved r.type r.category)
  types-changed = line_types-set l.letters.types l.letters.categories r.place r.type r.category

  pub length-changed : length (types_of (changed r l).letters) ≡ length (types_of l.letters)
  length-changed = ap length types-changed ∙ length-set (types_of l.letters) r.place (resolved r.type r.category)

  pub types_elsewhere : (i : ℕ) → (i ≡ r.place → ⊥) → get_or (types_of (changed r l).letters) i 0 ≡ get_or (types_of l.letters) i 0
  types_elsewhere i d = rw types-changed (get_or-set_other (types_of l.letters) r.place i _ 0 d)

  pub marks_elsewhere : (i : ℕ) → (i ≡ r.place → ⊥) → marks f (changed r l) i ≡ marks f l i
  marks_elsewhere i d = ap (λ (c : ℕ). f.mongolian && selector c) (get_or-set_other l.codes r.place i r.code 0 d)

  -- a new letter alters the actions only that it touches
  fresh-changed :
      (j : ℕ) → j < length (types_of l.letters)
      → (get_or (fresh_actions f (changed r l)) j 0 ≡ get_or (fresh_actions f l) j 0) ⊎ TouchesIn f l r.place j
  fresh-changed j h = from (rests (marks f l) j)
    where
      from :
          ((k : ℕ) × Rests (marks f l) k j) → (get_or (fresh_actions f (changed r l)) j 0 ≡ get_or (fresh_actions f l) j 0) ⊎ TouchesIn f l r.place j
      from (k, rest) = ⊎_elim own other (both-or-not k r.place r.place j)
        where
          own :
              (k ≤ r.place) × (r.place ≤ j)
              → (get_or (fresh_actions f (changed r l)) j 0 ≡ get_or (fresh_actions f l) j 0) ⊎ TouchesIn f l r.place j
          own (a, b) = inr (record { root = r.place; near = inl refl; reaches = reaches-past r.place rest.reaches (omega arith) (omega arith) })

          other :
              (k ≤ r.place → r.place ≤ j → ⊥)
              → (get_or (fresh_actions f (changed r l)) j 0 ≡ get_or (fresh_actions f l) j 0) ⊎ TouchesIn f l r.place j
          other off =
              let on = rest.reaches.forward in
              let apart : k ≡ r.place → ⊥ = λ e. off (omega arith) (omega arith) in
              let moved : Rests (marks f (changed r l)) k j =
              record {
                reaches = record { forward = on; all = λ i m n. marks_elsewhere i (λ e. off (omega arith) (omega arith)) ∙ rest.reaches.all i m n };
                stops = λ m. marks_elsewhere k apart ∙ rest.stops m;
              }
              in
              ⊎_elim
              (λ same. inl (fresh-rests f (changed r l) k j moved (omega (arith, length-changed)) ∙ rw types-changed (same ∙ sym (fresh-rests f l k j rest h))))
              (λ w. inr (record { root = k; near = inr w; reaches = rest.reaches }))
              (each_set form (λ p n q m. form-transparent p n ∙ sym (form-transparent q m)) f.before.0 (types_of l.letters) f.behind.0 r.place (resolved r.type r.category) k (omega arith) apart)

  -- a record that the new letter does not touch
  module _ (j : ℕ) (h : j < length (types_of l.letters)) (within : r.place ≤ length (types_of l.letters)) (not : touched f (changed r l) r.place j ≡ false) where
    never : TouchesIn f (changed r l) r.place j → ⊥
    never t =
        false≢true (sym not ∙ touches_touched f (changed r l) r.place j (omega (arith, length-changed)) (omega (arith, length-changed)) t)

    never-before : TouchesIn f l r.place j → ⊥
    never-before t =
        never (touches_own (types_of l.letters) (types_of (changed r l).letters) (marks f l) (marks f (changed r l)) r.place types_elsewhere marks_elsewhere j t)

    pub untouched_action : get_or (fresh_actions f (changed r l)) j 0 ≡ get_or (fresh_actions f l) j 0
    untouched_action = ⊎_elim (λ e. e) (λ t. absurd (never-before t)) (fresh-changed j h)

    pub untouched_mask :
        (features base : List ℕ) → j < length base → get_or (masks features base (fresh_actions f (changed r l))) j 0 ≡ get_or (masks features base (fresh_actions f l)) j 0
    untouched_mask features base b =
        masks-at features base (fresh_actions f (changed r l)) j b (omega (arith, length-fresh f (changed r l), length-changed)) ∙ ap (mask features (get_or base j 0)) untouched_action ∙ sym (masks-at features base (fresh_actions f l) j b (omega (arith, length-fresh f l)))

    pub untouched_touched : (q : ℕ) → q ≤ length (types_of l.letters) → touched f l q j ≡ touched f (changed r l) q j
    untouched_touched q w = same_truth (touched f l q j) (touched f (changed r l) q j) on back
      where
        on : touched f l q j ≡ true → touched f (changed r l) q j ≡ true
        on e =
            ⊎_elim (λ t. absurd (never-before t)) (λ t. touches_touched f (changed r l) q j (omega (arith, length-changed)) (omega (arith, length-changed)) t)
            (touches_other (types_of (changed r l).letters) (types_of l.letters) (marks f (changed r l)) (marks f l) r.place (λ i d. sym (types_elsewhere i d)) (λ i d. sym (marks_elsewhere i d)) q j (touched_touches f l q j w h e))

        back : touched f (changed r l) q j ≡ true → touched f l q j ≡ true
        back e =
            ⊎_elim (λ t. absurd (never t)) (λ t. touches_touched f l q j w h t)
            (touches_other (types_of l.letters) (types_of (changed r l).letters) (marks f l) (marks f (changed r l)) r.place types_elsewhere marks_elsewhere q j (touched_touches f (changed r l) q j (omega (arith, length-changed)) (omega (arith, length-changed)) e))
