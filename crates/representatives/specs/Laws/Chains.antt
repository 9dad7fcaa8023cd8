-- Chains of entries: the latest of each, and the way back along one.
use Rattle.std.specs.Prelude.{ℕ, ◌+◌, ◌<◌, ◌≡◌, refl, Bool, true, false, List, length, get_or, set, replicate}
use Rattle.std.specs.Prelude.{Option, Some, None, MatchOption}
use Rattle.std.proofs.Common.{sym, ap, subst, ◌∙◌, arith, length-set, get_or-set_same}
use Rattle.std.proofs.Common.{get_or-set_other}
use Rattle.std.proofs.lemmas.List.{get_or-replicate}
use Rattle.operations.proofs.Laws.Cases.{same}
use Rattle.operations.proofs.Laws.Rows.{order}
use Rattle.representatives.specs.declared.Chains.{Chains}
use Rattle.representatives.specs.Representatives.{AlikeBy, FirstBy, RepresentativeBy, DownTo, Latest, slot_of}
use Rattle.representatives.specs.Representatives.{slot_at, Counted, InChain, Chained, written}
use Rattle.representatives.specs.Laws.Firsts.{first_of}

-- ---- Entries alike are looked at alike, in one chain

counted_alike : (valued : Bool) (w : List ℕ) (i j : ℕ) → AlikeBy valued w i j → Counted valued w i → Counted valued w j
counted_alike false w i j a own = tt
counted_alike true w i j a own = a.1 ∙ own

slot_alike : (valued : Bool) (w : List ℕ) (i j : ℕ) → AlikeBy valued w i j → slot_at valued w j ≡ slot_at valued w i
unfolding slot_of
slot_alike false w i j a = rw (a.0, a.1) refl
slot_alike true w i j a = rw (a.0.0, a.0.1, a.2) refl

-- ---- One entry more

latest_none : (P : ℕ → Type 0) → Latest P 0 0
latest_none P =
    record { within = omega arith; such = λ j e. absurd (omega arith); later = λ j l m. absurd (omega arith) }

latest_kept : (P : ℕ → Type 0) (n p : ℕ) → Latest P n p → (P n → ⊥) → Latest P (n + 1) p
latest_kept P n p r other =
    let l = r.within in
    record {
      within = omega arith;
      such = r.such;
      later = λ j k m q. same j n (λ (e : j ≡ n). other (subst P e q))
          (λ (e : j ≡ n → ⊥). r.later j k (omega arith) q);
    }

latest_new : (P : ℕ → Type 0) (n : ℕ) → P n → Latest P (n + 1) (n + 1)
latest_new P n own =
    record { within = omega arith; such = λ j e. subst P (omega arith) own; later = λ j k m. absurd (omega arith) }

module _ (valued : Bool) (w : List ℕ) where
  one_slot : (i j : ℕ) → Counted valued w i → RepresentativeBy valued w i j → InChain valued w (slot_at valued w i) j
  one_slot i j own r = (counted_alike valued w i j r.alike own, r.first, slot_alike valued w i j r.alike)

  pub chained_none : {b : ℕ} (chains : Chains b) → chains.latest ≡ replicate 256 0 → length chains.before ≡ 257
      → Chained valued w 0 chains
  chained_none chains e f =
      record {
        of_latest = ap length e;
        of_before = f;
        latest = λ s l. rw (e, get_or-replicate {A = ℕ} 256 s 0 0 l) (latest_none (InChain valued w s));
        before = λ j l. absurd (omega arith);
      }

  -- On the way back: entry p - 1 is in the chain of entry i, and no entry from p on represents it.
  abbrev pub Way : ℕ → ℕ → Type 0
  Way i p = DownTo (InChain valued w (slot_at valued w i)) (RepresentativeBy valued w i) i p

  module _ (i : ℕ) {b : ℕ} (chains : Chains b) (c : Chained valued w i chains) where
    pub chained_more : (s : ℕ) → s ≡ slot_at valued w i → s < 256 → i < 256 → Counted valued w i → FirstBy valued w i
        → Chained valued w (i + 1) {b = b} (record {
          latest = set chains.latest s (i + 1);
          before = set chains.before (i + 1) (get_or chains.latest s 0);
        })
    chained_more s own l n counted first =
        record {
          of_latest = length-set chains.latest s (i + 1) ∙ c.of_latest;
          of_before = length-set chains.before (i + 1) (get_or chains.latest s 0) ∙ c.of_before;
          latest = λ t m.
              same t s
              (λ (e : t ≡ s). rw (e, get_or-set_same chains.latest s (i + 1) 0 (omega (arith, c.of_latest)))
              (latest_new (InChain valued w s) i (counted, first, sym own)))
              (λ (e : t ≡ s → ⊥).
              rw (get_or-set_other chains.latest s t (i + 1) 0 e)
              (latest_kept (InChain valued w t) i (get_or chains.latest t 0) (c.latest t m)
              (λ q. e (sym q.2 ∙ sym own))));
          before = λ j m q f.
              same j i
              (λ (e : j ≡ i).
              rw (
                e,
                get_or-set_same chains.before (i + 1) (get_or chains.latest s 0) 0
                    (omega (arith, c.of_before)),
                ← own,
              )
              (c.latest s l))
              (λ (e : j ≡ i → ⊥).
              rw (get_or-set_other chains.before (i + 1) (j + 1) (get_or chains.latest s 0) 0
              (λ (m : j + 1 ≡ i + 1). e (omega arith)))
              (c.before j (omega arith) q f));
        }

    -- An entry that is not looked at, or that an earlier one represents, is in no chain.
    pub chained_same : (Counted valued w i → FirstBy valued w i → ⊥) → Chained valued w (i + 1) chains
    chained_same other =
        record {
          of_latest = c.of_latest;
          of_before = c.of_before;
          latest = λ s l.
              latest_kept (InChain valued w s) i (get_or chains.latest s 0) (c.latest s l) (λ q. other q.0 q.1);
          before = λ j m q f.
              same j i
              (λ (e : j ≡ i). absurd (other (subst (Counted valued w) e q) (subst (FirstBy valued w) e f)))
              (λ (e : j ≡ i → ⊥). c.before j (omega arith) q f);
        }

    pub way_start : Counted valued w i → (s : ℕ) → s ≡ slot_at valued w i → s < 256 → Way i (get_or chains.latest s 0)
    way_start counted s own l =
        let r = c.latest s l in
        record {
          within = r.within;
          such = λ j e. let q = r.such j e in (q.0, q.1, q.2 ∙ own);
          later = λ j k m a. let q = one_slot i j counted a in r.later j k m (q.0, q.1, q.2 ∙ sym own);
        }

    module _ (p : ℕ) (r : Way i (p + 1)) where
      step : Latest (InChain valued w (slot_at valued w i)) p (get_or chains.before (p + 1) 0)
      step =
          let last = r.such p refl in
          subst (λ (s : ℕ). Latest (InChain valued w s) p (get_or chains.before (p + 1) 0)) last.2
          (c.before p (omega (arith, r.within)) last.0 last.1)

      -- The entry before in the chain.
      pub way_back : Counted valued w i → (AlikeBy valued w i p → ⊥) → Way i (get_or chains.before (p + 1) 0)
      way_back counted other =
          record {
            within = omega (arith, step.within, r.within);
            such = step.such;
            later = λ j k m a.
                order j p (λ (e : j < p). step.later j k e (one_slot i j counted a))
                (λ (e : j ≡ p). other (subst (AlikeBy valued w i) e a.alike))
                (λ (e : p < j). r.later j (omega arith) m a);
          }

  -- At its end, or at an entry alike: the entry written there, if one is, represents entry i.
  pub way_end : (i p : ℕ) (told : Option ℕ) → Way i p → written told ≡ p
      → ((j : ℕ) → p ≡ j + 1 → AlikeBy valued w i j)
      → MatchOption told (FirstBy valued w i) (λ j. (j < i) × RepresentativeBy valued w i j)
  way_end i p None r e like = first_of valued w i (λ j l. r.later j (omega (arith, e)) l)
  way_end i p (Some j) r e like =
      let below : j < i = omega (arith, e, r.within) in
      (below, record { within = omega (arith, below); alike = like j (sym e); first = (r.such j (sym e)).1 })
