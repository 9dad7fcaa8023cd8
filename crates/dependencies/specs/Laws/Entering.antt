-- An entry's owner put into the rows.
use Rattle.std.specs.Prelude.{ℕ, ◌+◌, ◌<◌, ◌≡◌, true, false, ◌&&◌, ◌↔◌, ◌⊎◌, List, [], eqb, get_or, set, length}
use Rattle.std.proofs.Common.{sym, ap, subst, ◌∙◌, inl, inr, ⊎_elim, arith, length-set, get_or-set_same}
use Rattle.std.proofs.Common.{get_or-set_other}
use Rattle.operations.proofs.Laws.Cases
use Rattle.bitset.specs.Bitset.{has, Members, In, Holds}
use Rattle.bitset.specs.Laws.{holds_same, in_meet, in_single}
use Rattle.pairs.specs.Pairs.{column_of}
use Rattle.representatives.specs.Representatives.{entry_transaction, entry_number, entry_key, entry_value}
use Rattle.representatives.specs.Representatives.{AlikeBy, FirstBy, Representative, Twin}
use Rattle.representatives.specs.Laws.Firsts.{alike_back, alike_both, firsts_apart}
use Rattle.dependencies.specs.declared.Entry.{Entry}
use Rattle.dependencies.specs.declared.Rows.{Rows}
use Rattle.dependencies.specs.Dependencies.{key_column, EntryRead, Owner, Differing, OwnersRow}
use Rattle.dependencies.specs.Dependencies.{On, AlikeByKey, Pushes, Modifies, ObjectRow, KeyRow}
use Rattle.dependencies.specs.Dependencies.{Gathered, Others}
use Rattle.dependencies.specs.Laws.Sets.{some_more, Added, WithOwner}
use Rattle.dependencies.specs.Laws.Numbers.{ranged}
use Rattle.dependencies.specs.Laws.Differing.{differing_of}
use Rattle.dependencies.specs.Laws.Rows.{row_kept, row_more}

-- A place of a list that is set twice.
module _ {A : Type 0} (l : List A) (o : ℕ) (r s d : A) where
  twice_same : o < length l → get_or (set (set l o r) o s) o d ≡ s
  twice_same below = get_or-set_same (set l o r) o s d (omega (arith, length-set l o r))

  twice_other : (x : ℕ) → (x ≡ o → ⊥) → get_or (set (set l o r) o s) x d ≡ get_or l x d
  twice_other x e = get_or-set_other (set l o r) o x s d e ∙ get_or-set_other l o x r d e

module _ (w : List ℕ) (i : ℕ) (rows : Rows) (g : Gathered w i rows) (entry : Entry) (p q : ℕ)
    (read : EntryRead w i entry) (n : p < 256) (by : Representative w i p) (twin : Twin w i q) (x again : ℕ)
    (others : Others w i x) where
  abbrev whole : List (List ℕ)
  whole = rows.objects

  abbrev same : List (List ℕ)
  same = rows.keys

  abbrev alike : List ℕ
  alike = rows.values

  abbrev t : ℕ
  t = entry.transaction

  abbrev o : ℕ
  o = entry.object

  abbrev number : ℕ
  number = entry.number

  -- The owner, where it has another item or value besides.
  module _ (single : ℕ) (own : Members single (λ b. eqb b t))
      (both : Members again (λ b. has single b && has x b)) where
    abbrev Again : (ℕ → Type 0) → (ℕ → ℕ) → ℕ → Type 0
    Again P item b = (entry_transaction w i ≡ b) × Differing P item (item i) w i b

    again_is : (P : ℕ → Type 0) (item : ℕ → ℕ) → Holds x (Differing P item (item i) w i) → (b : ℕ)
        → In again b ↔ Again P item b
    again_is P item held b = (
      λ e. let (s, d) = (in_meet again single x both b).0 e in
          (sym ((in_single single t own b).0 s ∙ read.of_transaction), (held b).0 d),
      λ (e, d). (in_meet again single x both b).1 (
        (in_single single t own b).1 (sym e ∙ sym read.of_transaction),
        (held b).1 d,
      ),
    )

    object_more : (r s : List ℕ) → Added (number ≡ 1) 6 (get_or whole o []) 5 (In again) r
        → WithOwner 6 r (column_of number) t s → OwnersRow 6 s (ObjectRow w o (i + 1))
    object_more r s varied owned =
        let within = ranged number read.numbered in
        let held : entry_number w i ≡ 1 → Holds x (Differing (Pushes w o) (entry_key w) (entry_key w i) w i) =
        λ f. rw read.of_object (others.pushes f) in
        row_more column_of (On w o) 5 (Pushes w o) (entry_key w) w 6 i (get_or whole o []) (g.on_object o read.within)
        (number ≡ 1) (In again) t r s
        (λ b. (
          λ (f, a). let f' = sym read.of_number ∙ f in
              let (e, d) = (again_is (Pushes w o) (entry_key w) (held f') b).0 a in
              ((sym read.of_object, f'), e, d),
          λ ((on, f), e, d). (read.of_number ∙ f, (again_is (Pushes w o) (entry_key w) (held f) b).1 (e, d)),
        ))
        (λ c. sym read.of_object, λ on. omega (arith, within.most, within.width, ap column_of read.of_number))
        read.of_transaction varied (rw read.of_number at owned)

    like_p : (j : ℕ) → AlikeBy false w i j → AlikeBy false w p j
    like_p j = alike_both false w p i j (alike_back false w i p by.alike)

    key_more : (r s : List ℕ) → Added (number ≡ 11) 4 (get_or same p []) 3 (In again) r
        → WithOwner 4 r (key_column number) t s → OwnersRow 4 s (KeyRow w p (i + 1))
    key_more r s varied owned =
        let own-alike = alike_back false w i p by.alike in
        let held : entry_number w i ≡ 11 → Holds x (Differing (Modifies w p) (entry_value w) (entry_value w i) w i) =
        λ f.
        holds_same (Differing (Modifies w i) (entry_value w) (entry_value w i) w i)
        (Differing (Modifies w p) (entry_value w) (entry_value w i) w i) x (others.modifies f)
        (λ b. (
          differing_of (Modifies w i) (Modifies w p) (entry_value w) w i b (λ j a. (like_p j a.0, a.1))
              (entry_value w i),
          differing_of (Modifies w p) (Modifies w i) (entry_value w) w i b
              (λ j a. (alike_both false w i p j by.alike a.0, a.1)) (entry_value w i),
        )) in
        row_more key_column (AlikeByKey w p) 3 (Modifies w p) (entry_value w) w 4 i (get_or same p [])
        (g.represented p n by.first) (number ≡ 11) (In again) t r s
        (λ b. (
          λ (f, a). let f' = sym read.of_number ∙ f in
              let (e, d) = (again_is (Modifies w p) (entry_value w) (held f') b).0 a in
              ((own-alike, f'), e, d),
          λ ((on, f), e, d). (read.of_number ∙ f, (again_is (Modifies w p) (entry_value w) (held f) b).1 (e, d)),
        ))
        (λ c. (own-alike, c), λ a. a.1) read.of_transaction varied (rw read.of_number at owned)

    twins_more : (r : List ℕ) → Added (number ≡ 11) 256 alike q (λ b. t ≡ b) r → (j : ℕ) → j < 256
        → entry_number w j ≡ 11 → FirstBy true w j → Holds (get_or r j 0) (Owner (AlikeBy true w j) w (i + 1))
    twins_more r added j m f first =
        holds_same (λ b. In (get_or alike j 0) b ⊎ ((number ≡ 11) × (q ≡ j) × (t ≡ b)))
        (Owner (AlikeBy true w j) w (i + 1)) (get_or r j 0) (added.sets j)
        (λ b.
        let more = some_more (λ k. AlikeBy true w j k × (entry_transaction w k ≡ b)) i in (
          ⊎_elim (λ a. more.0 (inl ((g.twins j m f first b).0 a)))
              (λ (e, at, u).
              let like = alike_back true w i q (twin.represents (sym read.of_number ∙ e)).alike in
              more.0 (inr (subst (λ (y : ℕ). AlikeBy true w y i) at like, sym read.of_transaction ∙ u))),
          λ a.
              ⊎_elim (λ old. inl ((g.twins j m f first b).1 old))
              (λ (like, u). inr (read.of_number ∙ (like.1 ∙ f), one_place like, read.of_transaction ∙ u))
              (more.1 a),
        ))
      where
        one_place : AlikeBy true w j i → q ≡ j
        one_place like =
            let represented = twin.represents (like.1 ∙ f) in
            Cases.same q j (λ (e : q ≡ j). e)
            (λ (e : q ≡ j → ⊥).
            absurd (firsts_apart true w q j represented.first first e
            (alike_both true w q i j (alike_back true w i q represented.alike) (alike_back true w j i like))))

    pub gathered_more : (r r' s s' m : List ℕ) → Added (number ≡ 1) 6 (get_or whole o []) 5 (In again) r
        → Added (number ≡ 11) 4 (get_or same p []) 3 (In again) s
        → WithOwner 6 (get_or (set whole o r) o []) (column_of number) t r'
        → WithOwner 4 (get_or (set same p s) p []) (key_column number) t s'
        → Added (number ≡ 11) 256 alike q (λ b. t ≡ b) m
        → Gathered w (i + 1)
        (record { objects = set (set whole o r) o r'; keys = set (set same p s) p s'; values = m })
    gathered_more r r' s s' m varied-items varied-values owned owned-key added =
        let in-objects : o < length whole = omega (arith, g.objects, read.within) in
        let in-entries : p < length same = omega (arith, g.entries) in
        record {
          objects = length-set (set whole o r) o r' ∙ (length-set whole o r ∙ g.objects);
          entries = length-set (set same p s) p s' ∙ (length-set same p s ∙ g.entries);
          values = added.columns;
          on_object = λ y l.
              Cases.same y o
              (λ (e : y ≡ o).
              rw (e, twice_same whole o r r' [] in-objects)
              (object_more r r' varied-items (rw (get_or-set_same whole o r [] in-objects) at owned)))
              (λ (e : y ≡ o → ⊥).
              let other : On w y i → ⊥ = λ h. e (sym h ∙ sym read.of_object) in
              rw (twice_other whole o r r' [] y e)
              (row_kept column_of (On w y) 5 (Pushes w y) (entry_key w) w 6 i (get_or whole y [])
              (g.on_object y l) other
              (λ a. other a.0)));
          represented = λ j l first.
              Cases.same j p
              (λ (e : j ≡ p).
              rw (e, twice_same same p s s' [] in-entries)
              (key_more s s' varied-values (rw (get_or-set_same same p s [] in-entries) at owned-key)))
              (λ (e : j ≡ p → ⊥).
              let other : AlikeBy false w j i → ⊥ = λ a.
              firsts_apart false w j p first by.first e (alike_both false w j i p a by.alike) in
              rw (twice_other same p s s' [] j e)
              (row_kept key_column (AlikeByKey w j) 3 (Modifies w j) (entry_value w) w 4 i (get_or same j [])
              (g.represented j l first) (λ a. other a.0) (λ a. other a.0)));
          twins = twins_more m added;
        }
