-- Words to come at three places, each written from the front on (`ToCome`): it begins (`to_come_lem`); a writer of the next words of the first, the second or the third of them brings it on (`first_next`, `second-next`, `third_next`), and has room (`room-first`, `room-second`, `room_third`); with none to come all is written (`all_there`).
-- Assumes nothing.
use mathlib.Core.Path.{◌≡◌, refl, sym, ap, ◌∙◌}
use mathlib.Core.List.{List, [], ◌++◌}
use Prim.Native.Nat.{ℕ, ◌+◌, ◌*◌, ◌≤◌}
use native.Mathlib.Nat.{add-zero}
use native.Mathlib.Omega.{arith}
use lib.ListN.{length, length-append}
use Rattle.laws.specs.Lists.{pasted}
use Rattle.laws.proofs.PasteLaws.{length-pasted, paste_none, paste_apart}
use Rattle.words.specs.Words.{bytes, Wrote}
use Rattle.words.proofs.WordLaws.{length-bytes}
use Rattle.words.proofs.WroteLaws.{ended, paste_words}
use Rattle.ligatures.specs.Sets.{Apart, placed}

-- what is there, with what is to come at each of three places, is `whole`; the last of it ends at `end`
pub record ToCome (whole : List ℕ) (end : ℕ) (area : List ℕ) (i : ℕ) (us : List ℕ) (j : ℕ) (vs : List ℕ) (k : ℕ) (ws : List ℕ) : Type 0 where
  pub apart : Apart area i us j vs k ws
  pub place : k + 2 * length ws ≡ end
  pub same : length area ≡ length whole
  pub made : placed area i us j vs k ws ≡ whole

-- one place behind what was written
wrote_on : {d : List ℕ} {i : ℕ} {x d' : List ℕ} {i' : ℕ} → Wrote d i x d' i' [] → i' ≡ i + 2 * length x
wrote_on {i' = i'} w = sym (add-zero i') ∙ w.place

-- words to come behind those written, before other parts that are to come
module _ (d : List ℕ) (i : ℕ) (x us : List ℕ) (i' : ℕ) (e : i' ≡ i + 2 * length x) where
  next_here : i' + 2 * length us ≤ length d → pasted (bytes us) i' (pasted (bytes x) i d) ≡ pasted (bytes (x ++ us)) i d
  next_here h = paste_words d i x us i' e h

  -- a part before them was to come
  next-behind :
      (j : ℕ) (vs : List ℕ) → j + 2 * length vs ≤ i → i' + 2 * length us ≤ length d
      → pasted (bytes us) i' (pasted (bytes vs) j (pasted (bytes x) i d)) ≡ pasted (bytes (x ++ us)) i (pasted (bytes vs) j d)
  next-behind j vs h g =
      let low : j + length (bytes vs) ≤ i = omega (arith, length-bytes vs) in
      let long = length-pasted (bytes vs) j d (omega arith) in
      ap (pasted (bytes us) i') (paste_apart (bytes vs) (bytes x) j i d low (omega (arith, length-bytes x)))
      ∙ paste_words (pasted (bytes vs) j d) i x us i' e (omega (arith, long))

  -- two parts were
  next_last :
      (j : ℕ) (vs : List ℕ) (k : ℕ) (ws : List ℕ) → j + 2 * length vs ≤ k → k + 2 * length ws ≤ i → i' + 2 * length us ≤ length d
      → pasted (bytes us) i' (pasted (bytes ws) k (pasted (bytes vs) j (pasted (bytes x) i d))) ≡ pasted (bytes (x ++ us)) i (pasted (bytes ws) k (pasted (bytes vs) j d))
  next_last j vs k ws h f g =
      let low : j + length (bytes vs) ≤ i = omega (arith, length-bytes vs) in
      let long = length-pasted (bytes vs) j d (omega arith) in
      ap (λ (y : List ℕ). pasted (bytes us) i' (pasted (bytes ws) k y)) (paste_apart (bytes vs) (bytes x) j i d low (omega (arith, length-bytes x)))
      ∙ behind-one (pasted (bytes vs) j d) (omega (arith, long))
    where
      behind-one :
          (y : List ℕ) → i' + 2 * length us ≤ length y
          → pasted (bytes us) i' (pasted (bytes ws) k (pasted (bytes x) i y)) ≡ pasted (bytes (x ++ us)) i (pasted (bytes ws) k y)
      behind-one y q =
          let under : k + length (bytes ws) ≤ i = omega (arith, length-bytes ws) in
          let as_long = length-pasted (bytes ws) k y (omega arith) in
          ap (pasted (bytes us) i') (paste_apart (bytes ws) (bytes x) k i y under (omega (arith, length-bytes x)))
          ∙ paste_words (pasted (bytes ws) k y) i x us i' e (omega (arith, as_long))

module _ {whole : List ℕ} {end : ℕ} {d : List ℕ} {i j k : ℕ} where
  pub room-first : (x us : List ℕ) {vs ws : List ℕ} → ToCome whole end d i (x ++ us) j vs k ws → i + 2 * length x ≤ length d
  room-first x us t = omega (arith, t.apart.first_ends, t.apart.second-ends, t.apart.third_ends, length-append x us)

  pub room-second : (x vs : List ℕ) {us ws : List ℕ} → ToCome whole end d i us j (x ++ vs) k ws → j + 2 * length x ≤ length d
  room-second x vs t = omega (arith, t.apart.second-ends, t.apart.third_ends, length-append x vs)

  pub room_third : (x ws : List ℕ) {us vs : List ℕ} → ToCome whole end d i us j vs k (x ++ ws) → k + 2 * length x ≤ length d
  room_third x ws t = omega (arith, t.apart.third_ends, length-append x ws)

  module _ {d' : List ℕ} where
    pub first_next : {x us vs ws : List ℕ} {i' : ℕ} → ToCome whole end d i (x ++ us) j vs k ws → Wrote d i x d' i' [] → ToCome whole end d' i' us j vs k ws
    first_next {x} {us} {vs} {ws} {i'} t w =
        let e : i' ≡ i + 2 * length x = wrote_on w in
        let a = t.apart in
        let n = length-append x us in
        let f : i' + 2 * length us ≤ j = omega (arith, a.first_ends) in
        record {
          apart = record { first_ends = f; second-ends = a.second-ends; third_ends = omega (arith, a.third_ends, w.same) };
          place = t.place;
          same = w.same ∙ t.same;
          made = ap (λ (y : List ℕ). placed y i' us j vs k ws) (ended w)
              ∙ ap (λ (y : List ℕ). pasted (bytes ws) k (pasted (bytes vs) j y)) (next_here d i x us i' e (omega (arith, a.second-ends, a.third_ends)))
              ∙ t.made;
        }

    pub second-next : {us x vs ws : List ℕ} {j' : ℕ} → ToCome whole end d i us j (x ++ vs) k ws → Wrote d j x d' j' [] → ToCome whole end d' i us j' vs k ws
    second-next {us} {x} {vs} {ws} {j'} t w =
        let e : j' ≡ j + 2 * length x = wrote_on w in
        let a = t.apart in
        let n = length-append x vs in
        let f : j' + 2 * length vs ≤ k = omega (arith, a.second-ends) in
        record {
          apart = record { first_ends = omega (arith, a.first_ends); second-ends = f; third_ends = omega (arith, a.third_ends, w.same) };
          place = t.place;
          same = w.same ∙ t.same;
          made = ap (λ (y : List ℕ). placed y i us j' vs k ws) (ended w)
              ∙ ap (pasted (bytes ws) k) (next-behind d j x vs j' e i us a.first_ends (omega (arith, a.third_ends)))
              ∙ t.made;
        }

    pub third_next : {us vs x ws : List ℕ} {k' : ℕ} → ToCome whole end d i us j vs k (x ++ ws) → Wrote d k x d' k' [] → ToCome whole end d' i us j vs k' ws
    third_next {us} {vs} {x} {ws} {k'} t w =
        let e : k' ≡ k + 2 * length x = wrote_on w in
        let a = t.apart in
        let n = length-append x ws in
        record {
          apart = record { first_ends = a.first_ends; second-ends = omega (arith, a.second-ends); third_ends = omega (arith, a.third_ends, w.same) };
          place = omega (arith, t.place);
          same = w.same ∙ t.same;
          made = ap (λ (y : List ℕ). placed y i us j vs k' ws) (ended w) ∙ next_last d k x ws k' e i us j vs a.first_ends a.second-ends (omega (arith, a.third_ends)) ∙ t.made;
        }

  pub all_there : ToCome whole end d i [] j [] k [] → d ≡ whole
  unfolding bytes
  all_there t = sym (paste_none k (pasted [] j (pasted [] i d)) ∙ paste_none j (pasted [] i d) ∙ paste_none i d) ∙ t.made

-- three parts that are to come
pub to_come_lem : {area : List ℕ} {i : ℕ} {us : List ℕ} {j : ℕ} {vs : List ℕ} {k : ℕ} {ws : List ℕ} → Apart area i us j vs k ws → ToCome (placed area i us j vs k ws) (k + 2 * length ws) area i us j vs k ws
to_come_lem {area} {i} {us} {j} {vs} {k} {ws} a =
    let first = length-pasted (bytes us) i area (omega (arith, a.first_ends, a.second-ends, a.third_ends, length-bytes us)) in
    let second = length-pasted (bytes vs) j (pasted (bytes us) i area) (omega (arith, a.second-ends, a.third_ends, length-bytes vs)) in
    let third = length-pasted (bytes ws) k (pasted (bytes vs) j (pasted (bytes us) i area)) (omega (arith, a.third_ends, length-bytes ws)) in
    record { apart = a; place = refl; same = omega arith; made = refl }
