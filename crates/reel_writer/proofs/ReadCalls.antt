-- Calls that read files of a folder, one behind another.
use Rattle.std.proofs.Common.{◌≡◌, inl, inr, ℕ, List, [], ◌∷◌, ◌++◌, append_assoc, length, get_or, refl, sym, ◌∙◌, ap, subst}
use Rattle.std.specs.Prelude.{Result, Ok, Err, IfOk, OnErr}
use Rattle.std.proofs.lemmas.List.Elements.{All-nil, All-cons, All-append}
use Rattle.cf_base.specs.declared.file.FileId.{FileId}
use Rattle.reel_disk.specs.declared.disk.Got.TheVariants.{Bytes, Failed}
use Rattle.reel_disk.specs.declared.disk.Length as l
use Rattle.reel_disk.specs.Call.{Call, Measured, Read, Wrote, Patched, Synced}
use Rattle.resume_ledger.specs.Calls.{bytes_of, reads_of}
use Rattle.resume_ledger.specs.OpeningCalls.{Digests, FailsDigest}
use Rattle.reel_writer.specs.Reads.{IsOn, MakesOnly, WasMade, WasHashed}

module _ (On : FileId → Type 0) where
  -- no call
  pub made_none : (calls : List Call) → MakesOnly On calls calls
  made_none calls = record { since = []; made = refl; each = All-nil (IsOn On) }

  pub made_one : (call : Call) (before after : List Call) → IsOn On call → after ≡ call ∷ before → MakesOnly On before after
  made_one call before after on is = record { since = call ∷ []; made = is; each = All-cons (IsOn On) call [] on (All-nil (IsOn On)) }

  pub made_two : (first second : Call) (before mid after : List Call) → IsOn On first → IsOn On second → mid ≡ first ∷ before → after ≡ second ∷ mid → MakesOnly On before after
  made_two first second before mid after on also is then =
      record { since = second ∷ first ∷ []; made = then ∙ ap (λ (l : List Call). second ∷ l) is; each = All-cons (IsOn On) second (first ∷ []) also (All-cons (IsOn On) first [] on (All-nil (IsOn On))) }

  -- calls behind others
  pub made_along : (a b c : List Call) → MakesOnly On a b → MakesOnly On b c → MakesOnly On a c
  made_along a b c first second = record {
    since = second.since ++ first.since;
    made = second.made ∙ ap (λ (l : List Call). second.since ++ l) first.made ∙ sym (append_assoc second.since first.since a);
    each = All-append (IsOn On) second.since first.since second.each first.each;
  }

-- on files among more
on_wider : (On Wide : FileId → Type 0) → ((q : FileId) → On q → Wide q) → (call : Call) → IsOn On call → IsOn Wide call
on_wider On Wide wider (Measured id len) on = wider id on
on_wider On Wide wider (Read id start into got) on = wider id on
on_wider On Wide wider (Wrote id bytes did) on = wider id on
on_wider On Wide wider (Patched id start bytes did) on = wider id on
on_wider On Wide wider (Synced id did) on = wider id on

pub made_wider : (On Wide : FileId → Type 0) → ((q : FileId) → On q → Wide q) → (before after : List Call) → MakesOnly On before after → MakesOnly Wide before after
made_wider On Wide wider before after made = record {
  since = made.since;
  made = made.made;
  each = λ k d within. on_wider On Wide wider (get_or made.since k d) (made.each k d within);
}

-- a file that is hashed piece by piece
module _ (id : FileId) where
  pub reads_made : (pieces : List (ℕ × List ℕ)) (old : List Call) → MakesOnly (λ q. q ≡ id) old (reads_of id pieces old)
  reads_made [] old = made_none (λ q. q ≡ id) old
  reads_made (p ∷ pieces) old =
      made_along (λ q. q ≡ id) old (reads_of id pieces old) _ (reads_made pieces old)
      (made_one (λ q. q ≡ id) (Read id (length (bytes_of pieces)) p.1 (Bytes p.0)) (reads_of id pieces old) _ refl refl)

  -- and a read of it in front
  pub read_made : (pieces : List (ℕ × List ℕ)) (call : Call) (old new : List Call) → IsOn (λ q. q ≡ id) call → new ≡ call ∷ reads_of id pieces old → MakesOnly (λ q. q ≡ id) old new
  read_made pieces call old new on is = made_along (λ q. q ≡ id) old (reads_of id pieces old) new (reads_made pieces old) (made_one (λ q. q ≡ id) call (reads_of id pieces old) new on is)

  -- behind its length
  pub measured_made : (len : l.Length) (old new : List Call) → MakesOnly (λ q. q ≡ id) (Measured id len ∷ old) new → MakesOnly (λ q. q ≡ id) old new
  measured_made len old new = made_along (λ q. q ≡ id) old (Measured id len ∷ old) new (made_one (λ q. q ≡ id) (Measured id len) old (Measured id len ∷ old) refl refl)

  digest_made : (digest : List ℕ) (old new : List Call) → Digests id digest old new → MakesOnly (λ q. q ≡ id) old new
  digest_made digest old new (inl (len, (pieces, long, is, made, are))) =
      measured_made (l.TheVariants.There len) old new (subst (MakesOnly (λ q. q ≡ id) (Measured id (l.TheVariants.There len) ∷ old)) (sym made) (reads_made pieces (Measured id (l.TheVariants.There len) ∷ old)))
  digest_made digest old new (inr (none, inl made)) = made_one (λ q. q ≡ id) (Measured id l.TheVariants.Absent) old new refl made
  digest_made digest old new (inr (none, inr (len, (pieces, into, got, well, made, are)))) =
      measured_made (l.TheVariants.There len) old new (read_made pieces (Read id (length (bytes_of pieces)) into got) (Measured id (l.TheVariants.There len) ∷ old) new refl made)

  failed_made : (old new : List Call) → FailsDigest id old new → MakesOnly (λ q. q ≡ id) old new
  failed_made old new (len, inl made) = made_one (λ q. q ≡ id) (Measured id l.TheVariants.Failed) old new refl made
  failed_made old new (len, inr (pieces, into, made, are)) =
      measured_made (l.TheVariants.There len) old new (read_made pieces (Read id (length (bytes_of pieces)) into Failed) (Measured id (l.TheVariants.There len) ∷ old) new refl made)

  -- its digest, or a fault
  pub digested_made : {E : Type 0} (result : Result (List ℕ) E) (old new : List Call) → IfOk result (λ digest. Digests id digest old new) → OnErr result (FailsDigest id old new) → MakesOnly (λ q. q ≡ id) old new
  digested_made (Ok digest) old new is failed = digest_made digest old new is
  digested_made (Err fault) old new is failed = failed_made old new failed

-- what was made just now
pub was_now : (Made : (before after : List Call) → Type 0) (before after : List Call) → Made before after → WasMade Made after
was_now Made before after made = record { before = before; after = after; newer = []; made = made; among = refl }

-- what was made, when more calls are made
module _ (On : FileId → Type 0) (calls later : List Call) (more : MakesOnly On calls later) where
  pub was_still : (Made : (before after : List Call) → Type 0) → WasMade Made calls → WasMade Made later
  was_still Made was = record {
    before = was.before;
    after = was.after;
    newer = more.since ++ was.newer;
    made = was.made;
    among = more.made ∙ ap (λ (l : List Call). more.since ++ l) was.among ∙ sym (append_assoc more.since was.newer was.after);
  }

  pub hashed_still : (id : FileId) (digest : List ℕ) → WasHashed id digest calls → WasHashed id digest later
  hashed_still id digest (inl pieces) = inl (was_still _ pieces)
  hashed_still id digest (inr (bytes, is, whole)) = inr (bytes, is, was_still _ whole)
