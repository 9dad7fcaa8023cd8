-- Dropping and committing, for any type of object that meets the laws of `ObjectType`.
use Rattle.std.specs.Prelude.{ℕ, ◌≡◌, refl, Bool, true, false, [], ◌∷◌}
use Rattle.std.proofs.Common.{sym, ap, ◌∙◌, true≢false}
use Rattle.operations.specs.Operations.{All}
use Rattle.operations.specs.Log as log
use Rattle.operations.specs.Log.{only, others}
use Rattle.operations.proofs.Laws.ObjectTypes.{ObjectType, Log, EntryFits}
use Rattle.operations.proofs.Laws.Cases.{split, all_map, all_map₂, all_filter}

module _ (X : ObjectType) where
  open X use {State, Operation, Answer, next, answer, recoverable, commutes, Valid, Fits, view}
  open X use {valid_next, answer_view, view_next, view_recoverable, next_commutes, recoverable_commutes}

  abbrev Entry : Type 0
  Entry = log.Entry Operation Answer

  -- A recoverable operation has the same answer whether or not the logged one ran.
  pub same_answer : (o p : Operation) (s : State) → Fits o → Fits p → Valid s → recoverable o p ≡ true
      → answer o (next p s) ≡ answer o s
  same_answer o p s fo fp v e = answer_view o (next p s) s fo (valid_next p s fp v) v (view_recoverable o p s fo fp v e)

  -- States that an operation's view doesn't tell apart get it the same answer after any entries.
  same_after : (o : Operation) (l : Log X) (s t : State) → Fits o → Valid s → Valid t → All (EntryFits X) l
      → view o s ≡ view o t
      → answer o (log.after next l s) ≡ answer o (log.after next l t)
  same_after o [] s t fo vs vt f e = answer_view o s t fo vs vt e
  same_after o (x ∷ l) s t fo vs vt f e =
      let p : Operation = x.operation in
      same_after o l (next p s) (next p t) fo (valid_next p s f.0 vs) (valid_next p t f.0 vt) f.1
      (view_next o p s t fo f.0 vs vt e)

  -- An entry that the operation is recoverable against may be left out, whatever comes between.
  pub left_out_before : (o : Operation) (x : Entry) (l : Log X) (s : State) → Fits o → All (EntryFits X) (x ∷ l)
      → Valid s
      → recoverable o x.operation ≡ true → answer o (log.after next l s) ≡ answer o (log.after next (x ∷ l) s)
  left_out_before o x l s fo f v e =
      same_after o l s (next x.operation s) fo v (valid_next x.operation s f.0 v) f.1
      (sym (view_recoverable o x.operation s fo f.0 v e))

  -- Operations that commute reach one state, with the same answers, in either order.
  pub either_order : (o p : Operation) (s : State) → Fits o → Fits p → Valid s → commutes o p ≡ true
      → (next o (next p s) ≡ next p (next o s)) × (answer o (next p s) ≡ answer o s)
      × (answer p (next o s) ≡ answer p s)
  either_order o p s fo fp v e =
      let both : (recoverable o p ≡ true) × (recoverable p o ≡ true) = recoverable_commutes o p fo fp e in
      (next_commutes o p s fo fp v e, same_answer o p s fo fp v both.0, same_answer p o s fp fo v both.1)

  -- ---- Dropping

  module _ (kept : ℕ → Bool) where
    -- a kept entry's view of the two states is the same
    abbrev SameTo : State → State → Entry → Type 0
    SameTo s t x = kept x.transaction ≡ true → view x.operation s ≡ view x.operation t

    -- an entry served in both carries the views along
    served : (e : Entry) (s t : State) → Fits e.operation → Valid s → Valid t → (l : Log X)
        → All (EntryFits X) l → All (SameTo s t) l
        → All (SameTo (next e.operation s) (next e.operation t)) l
    served e s t f vs vt l fs same =
        all_map₂ {R = SameTo (next e.operation s) (next e.operation t)}
        (λ (x : Entry) (fx : Fits x.operation) (a : SameTo s t x) k.
        view_next x.operation e.operation s t fx f vs vt (a k)) l fs same

    -- one left out on the right keeps the views of what is recoverable against it
    left_out : (e : Entry) (s t : State) → Fits e.operation → Valid s → kept e.transaction ≡ false
        → (l : Log X) → All (EntryFits X) l
        → All (log.Recovers recoverable e) l → All (SameTo s t) l → All (SameTo (next e.operation s) t) l
    left_out e s t f v out l fs r same =
        all_map₂ {R = SameTo (next e.operation s) t}
        (λ (x : Entry) (b : SameTo (next e.operation s) s x) (a : SameTo s t x) k. b k ∙ a k) l
        (all_map₂ {R = SameTo (next e.operation s) s}
        (λ (x : Entry) (fx : Fits x.operation) (rx : log.Recovers recoverable e x) k.
        view_recoverable x.operation e.operation s fx f v (rx (λ own. true≢false (sym k ∙ ap kept own ∙ out)))) l
        fs r)
        same

    drop_from : (l : Log X) (s t : State) → Valid s → Valid t → All (EntryFits X) l → log.Recoverable recoverable l
        → All (SameTo s t) l
        → log.Answered next answer l s → log.Answered next answer (only kept l) t
    drop_from [] s t vs vt f r a p = tt
    drop_from (e ∷ l) s t vs vt f r a p =
        let vs' : Valid (next e.operation s) = valid_next e.operation s f.0 vs in
        split (kept e.transaction)
        (λ (k : kept e.transaction ≡ true).
        let vt' : Valid (next e.operation t) = valid_next e.operation t f.0 vt in
        rw k (
          sym (answer_view e.operation s t f.0 vs vt (a.0 k)) ∙ p.0,
          drop_from l (next e.operation s) (next e.operation t) vs' vt' f.1 r.1
              (served e s t f.0 vs vt l f.1 a.1) p.1,
        ))
        (λ (k : kept e.transaction ≡ false).
        rw k (drop_from l (next e.operation s) t vs' vt f.1 r.1
        (left_out e s t f.0 vs k l f.1 r.0 a.1) p.1))

    -- Leaving out any set of transactions leaves every other entry its answer. A transaction's own entries may stand
    -- between.
    pub dropping : (l : Log X) (s : State) → Valid s → All (EntryFits X) l → log.Recoverable recoverable l
        → log.Answered next answer l s
        → log.Answered next answer (only kept l) s
    dropping l s v f r p =
        drop_from l s s v v f r (all_map {Q = SameTo s s} (λ (x : Entry) (fx : Fits x.operation) k. refl) l f) p

  -- ---- Committing

  abbrev CommutesWith : Entry → Entry → Type 0
  CommutesWith e x = commutes x.operation e.operation ≡ true

  -- An entry served after a list that commutes with it, and not before.
  after_list : (e : Entry) (l : Log X) (s : State) → Fits e.operation → Valid s → All (EntryFits X) l
      → All (CommutesWith e) l
      → (log.after next l (next e.operation s) ≡ next e.operation (log.after next l s))
      × (answer e.operation (log.after next l s) ≡ answer e.operation s)
      × (log.Answered next answer l (next e.operation s) → log.Answered next answer l s)
  after_list e [] s f v fs cs = (refl, refl, λ p. p)
  after_list e (x ∷ l) s f v fs cs =
      let o : Operation = e.operation in
      let swapped : (next x.operation (next o s) ≡ next o (next x.operation s))
      × (answer x.operation (next o s) ≡ answer x.operation s)
      × (answer o (next x.operation s) ≡ answer o s) = either_order x.operation o s fs.0 f v cs.0 in
      let rest = after_list e l (next x.operation s) f (valid_next x.operation s fs.0 v) fs.1 cs.1 in (
        ap (log.after next l) swapped.0 ∙ rest.0,
        rest.1 ∙ swapped.2,
        λ p. (sym swapped.1 ∙ p.0, rest.2 (rw swapped.0 at p.1)),
      )

  module _ (picked : ℕ → Bool) where
    -- Serving the picked transactions first, each of whose entries commutes with every earlier entry of another,
    -- reaches the same state and gives every entry its answer.
    pub committing : (l : Log X) (s : State) → Valid s → All (EntryFits X) l → log.Commuting commutes picked l
        → log.Answered next answer l s
        → (log.after next l s ≡ log.after next (only (others picked) l) (log.after next (only picked l) s))
        × log.Answered next answer (only picked l) s
        × log.Answered next answer (only (others picked) l) (log.after next (only picked l) s)
    committing [] s v f c p = (refl, tt, tt)
    committing (e ∷ l) s v f c p =
        let rest = committing l (next e.operation s) (valid_next e.operation s f.0 v) f.1 c.1 p.1 in
        split (picked e.transaction) (λ (k : picked e.transaction ≡ true).
        rw k (rest.0, (p.0, rest.1), rest.2))
        (λ (k : picked e.transaction ≡ false).
        let moved = after_list e (only picked l) s f.0 v
        (all_filter {Q = EntryFits X} (λ x h q. h) l f.1)
        (all_filter {Q = CommutesWith e} (λ (x : Entry) (h : log.PassesBefore commutes picked e x) q. h q k) l
        c.0) in
        rw k (rw (← moved.0) rest.0, moved.2 rest.1, (moved.1 ∙ p.0, rw moved.0 at rest.2)))
