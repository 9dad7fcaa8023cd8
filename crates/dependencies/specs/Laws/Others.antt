-- The rows of an entry, and the owners of entries with another item or value that they tell.
use Rattle.std.specs.Prelude.{ℕ, ◌≤◌, ◌<◌, ◌≡◌, refl, true, false, List, [], get_or}
use Rattle.std.proofs.Common.{sym, ◌∙◌, inl, inr, ⊎_elim, arith}
use Rattle.std.proofs.Math.Path.{ap}
use Rattle.operations.specs.PairRules.{kind_numbered, first_number, last_number}
use Rattle.bitset.specs.Bitset.{Holds}
use Rattle.bitset.specs.Laws.{holds_same}
use Rattle.pairs.specs.Pairs.{first_of, column_of}
use Rattle.store.specs.Layout.{word}
use Rattle.representatives.specs.Representatives.{entry_object, entry_number, entry_key, entry_value}
use Rattle.representatives.specs.Representatives.{Readable, Alike, AlikeBy, Representative, Twin}
use Rattle.representatives.specs.Laws.Firsts.{alike_back, alike_both}
use Rattle.dependencies.specs.declared.Entry.{Entry}
use Rattle.dependencies.specs.declared.Rows.{Rows}
use Rattle.dependencies.specs.Dependencies.{key_column, EntryRead, Owner, Owned, Varied, OwnersRow, On, AlikeByKey}
use Rattle.dependencies.specs.Dependencies.{Pushes, Modifies, ObjectRow, KeyRow, Gathered, Others, Found}
use Rattle.dependencies.specs.Laws.Sets.{represents_same}
use Rattle.dependencies.specs.Laws.Differing.{differing, varied_of}
use Rattle.dependencies.specs.Laws.Numbers.{ranged}
use Rattle.dependencies.specs.Laws.Columns.{column_other, push_column, modify_column}
use Rattle.dependencies.specs.Laws.Reading.{numbered, kind_read, column_read}

module _ (w : List ℕ) (readable : Readable w) (i : ℕ) (l : i < word w 0) where
  abbrev o : ℕ
  o = entry_object w i

  module _ (j : ℕ) (m : j < word w 0) where
    narrow : column_of (entry_number w j) ≡ 5 → ⊥
    narrow e = let r = ranged (entry_number w j) (numbered w readable j m) in omega (arith, r.least, r.most, r.width)

    module _ (e : entry_object w j ≡ o) where
      -- The numbers of entries on the object of a push, and of a modify.
      low : entry_number w i ≡ 1 → (first_of (entry_number w i) ≡ 1) × (entry_number w j ≤ 3)
      unfolding kind_numbered
      low f =
          let r = ranged (entry_number w j) (numbered w readable j m) in
          let kind : kind_numbered (entry_number w j) ≡ kind_numbered 1 =
          kind_read w readable i j l m e ∙ ap kind_numbered f in
          (ap first_of f, omega (arith, r.most, ap last_number kind))

      high : entry_number w i ≡ 11 → 7 ≤ entry_number w j
      unfolding kind_numbered
      high f =
          let r = ranged (entry_number w j) (numbered w readable j m) in
          let kind : kind_numbered (entry_number w j) ≡ kind_numbered 11 =
          kind_read w readable i j l m e ∙ ap kind_numbered f in
          omega (arith, r.least, ap first_number kind)

  module _ (row : List ℕ) (held : OwnersRow 6 row (ObjectRow w o i)) where
    pub at_column : (m : ℕ) → m < 5 → Holds (get_or row m 0) (Owned column_of (On w o) w i m)
    at_column m below =
        holds_same (ObjectRow w o i m) (Owned column_of (On w o) w i m) (get_or row m 0) (held.sets m)
        (λ b. (⊎_elim (λ x. x) (λ x. absurd (omega (arith, x.0))), inl))

    items : Holds (get_or row 5 0) (Varied (Pushes w o) (entry_key w) w i)
    items =
        holds_same (ObjectRow w o i 5) (Varied (Pushes w o) (entry_key w) w i) (get_or row 5 0) (held.sets 5)
        (λ b. (⊎_elim (λ (j, n, (on, c, t)). absurd (narrow j (omega arith) c)) (λ x. x.1), λ x. inr (refl, x)))

    pushers : entry_number w i ≡ 1 → Holds (get_or row 0 0) (Owner (Pushes w o) w i)
    pushers f =
        holds_same (Owned column_of (On w o) w i 0) (Owner (Pushes w o) w i) (get_or row 0 0) (at_column 0
        (omega arith))
        (λ b. (
          λ (j, n, (on, c, t)).
              let m : j < word w 0 = omega arith in
              (j, n, ((on, omega (arith, c, column_read w readable i j l m on, (low j m on f).0)), t)),
          λ (j, n, ((on, c), t)).
              let m : j < word w 0 = omega arith in
              (j, n, (on, omega (arith, c, column_read w readable i j l m on, (low j m on f).0), t)),
        ))

  module _ (row : List ℕ) (held : OwnersRow 4 row (KeyRow w i i)) where
    pub at_key_column : (m : ℕ) → (m ≡ 3 → ⊥) → Holds (get_or row m 0) (Owned key_column (AlikeByKey w i) w i m)
    at_key_column m other =
        holds_same (KeyRow w i i m) (Owned key_column (AlikeByKey w i) w i m) (get_or row m 0) (held.sets m)
        (λ b. (⊎_elim (λ x. x) (λ x. absurd (other (sym x.0))), inl))

    values : Holds (get_or row 3 0) (Varied (Modifies w i) (entry_value w) w i)
    values =
        holds_same (KeyRow w i i 3) (Varied (Modifies w i) (entry_value w) w i) (get_or row 3 0) (held.sets 3)
        (λ b. (
          ⊎_elim (λ (j, n, (a, c, t)). absurd (column_other (entry_number w j) c)) (λ x. x.1),
          λ x. inr (refl, x),
        ))

    -- The pushes of the item, and the modifies of the key.
    equal_pushers : entry_number w i ≡ 1
        → Holds (get_or row 0 0) (Owner (λ j. Pushes w o j × (entry_key w j ≡ entry_key w i)) w i)
    unfolding key_column
    equal_pushers f =
        holds_same (Owned key_column (AlikeByKey w i) w i 0)
        (Owner (λ j. Pushes w o j × (entry_key w j ≡ entry_key w i)) w i) (get_or row 0 0)
        (at_key_column 0 (λ e. omega arith))
        (λ b. (
          λ (j, n, (((on, key), tells), c, t)).
              (j, n, (((on, push_column (entry_number w j) (low j (omega arith) on f).1 c), key), t)),
          λ (j, n, (((on, c), key), t)).
              let first : key_column (entry_number w j) ≡ 0 = ap key_column c in
              (j, n, (((on, key), omega (arith, first)), first, t)),
        ))

    modifiers : entry_number w i ≡ 11 → Holds (get_or row 2 0) (Owner (Modifies w i) w i)
    unfolding key_column
    modifiers f =
        holds_same (Owned key_column (AlikeByKey w i) w i 2) (Owner (Modifies w i) w i) (get_or row 2 0)
        (at_key_column 2 (λ e. omega arith))
        (λ b. (
          λ (j, n, ((a, tells), c, t)).
              (j, n, ((a, modify_column (entry_number w j) (high j (omega arith) a.0 f) c), t)),
          λ (j, n, ((a, c), t)).
              let last : key_column (entry_number w j) ≡ 2 = ap key_column c in
              (j, n, ((a, omega (arith, last)), last, t)),
        ))

  -- Of modifies alone the twin knows those with the value too.
  equal_modifiers : (q s : ℕ) → entry_number w i ≡ 11 → AlikeBy true w i q → Holds s (Owner (AlikeBy true w q) w i)
      → Holds s (Owner (λ j. Modifies w i j × (entry_value w j ≡ entry_value w i)) w i)
  equal_modifiers q s f like held =
      holds_same (Owner (AlikeBy true w q) w i) (Owner (λ j. Modifies w i j × (entry_value w j
      ≡ entry_value w i)) w i) s
      held
      (λ b. (
        λ (j, n, (a, t)).
            let (alike, number, value) = alike_both true w i q j like a in
            (j, n, (((alike, number ∙ f), value), t)),
        λ (j, n, (((alike, number), value), t)).
            (j, n, (alike_both true w q i j (alike_back true w i q like) (alike, number ∙ sym f, value), t)),
      ))

  module _ (rows : Rows) (g : Gathered w i rows) (p : ℕ) (n : p < 256) (by : Representative w i p) where
    -- The row of the entries like entry i, which entry p represents.
    pub row_alike : OwnersRow 4 (get_or rows.keys p []) (KeyRow w i i)
    row_alike =
        let row = g.represented p n by.first in
        record {
          columns = row.columns;
          sets = represents_same (KeyRow w p i) (KeyRow w i i) (get_or rows.keys p []) row.sets
              (λ m b. (
                ⊎_elim (λ (j, k, ((a, tells), c, t)). inl (j, k, ((like_i j a, tells), c, t)))
                    (λ (at, v).
                    inr (
                      at,
                      varied_of (Modifies w p) (Modifies w i) (entry_value w) w i b
                          (λ j a. (like_i j a.0, a.1)) v,
                    )),
                ⊎_elim (λ (j, k, ((a, tells), c, t)). inl (j, k, ((like_p j a, tells), c, t)))
                    (λ (at, v).
                    inr (
                      at,
                      varied_of (Modifies w i) (Modifies w p) (entry_value w) w i b
                          (λ j a. (like_p j a.0, a.1)) v,
                    )),
              ));
        }
      where
        like_i : (j : ℕ) → Alike w p j → Alike w i j
        like_i j = alike_both false w i p j by.alike

        like_p : (j : ℕ) → Alike w i j → Alike w p j
        like_p j = alike_both false w p i j (alike_back false w i p by.alike)

    pub others : (entry : Entry) (q r : ℕ) → EntryRead w i entry → q < 256 → Twin w i q
        → Found entry.number (get_or rows.objects entry.object []) (get_or rows.keys p []) (get_or rows.values q 0) r
        → Others w i r
    others entry q r read below twin found =
        let row = g.on_object o (readable.objects i l) in
        let own : Found (entry_number w i) (get_or rows.objects o []) (get_or rows.keys p [])
        (get_or rows.values q 0) r =
        rw (read.of_object, read.of_number) at found in
        record {
          pushes = λ f.
              differing (Pushes w o) (entry_key w) w (entry_key w i) i _ _ _ r (items _ row) (pushers _ row f)
              (equal_pushers _ row_alike f) (own.pushes f);
          modifies = λ f.
              let first = twin.represents f in
              differing (Modifies w i) (entry_value w) w (entry_value w i) i _ _ _ r (values _ row_alike)
              (modifiers _ row_alike f)
              (equal_modifiers q _ f first.alike
              (g.twins q below (first.alike.1 ∙ f) first.first))
              (own.modifies f);
        }
