-- Which files calls write, one after another.
--     writing_none      no call was made
--     writing_reads      no call but reads
--     writing_once      one call
--     writing_call      one call more
--     writing_then      some calls, and then others
--     writing_wider      the same of more files
use Rattle.std.proofs.Common.{◌≡◌, List, [], ◌∷◌, ◌++◌, refl, sym, ◌∙◌, ap, subst, append_assoc}
use Rattle.std.proofs.lemmas.List.Elements.{All-nil, All-cons, All-append, All-weaker}
use Rattle.cf_base.specs.declared.file.FileId.{FileId}
use Rattle.reel_disk.specs.Call.{Call, Measured, Read, Wrote, Patched, Synced, IsOwnCall, OnlyWrites, writes_in}

pub writing_none : {May : FileId → Type 0} {a : List Call} → OnlyWrites May a a
writing_none {May = May} = record { since = []; made = refl; own = All-nil (IsOwnCall May) }

pub writing_reads : {May : FileId → Type 0} {a b : List Call} → writes_in b ≡ writes_in a → OnlyWrites May a b
writing_reads {May = May} same = record { since = []; made = same; own = All-nil (IsOwnCall May) }

module _ {May : FileId → Type 0} {a b : List Call} (writing : OnlyWrites May a b) where
  made_more : (call : Call) → IsOwnCall May call → writes_in (call ∷ b) ≡ call ∷ writes_in b → OnlyWrites May a (call ∷ b)
  made_more call own is = record {
    since = call ∷ writing.since;
    made = is ∙ ap (λ (l : List Call). call ∷ l) writing.made;
    own = All-cons (IsOwnCall May) call writing.since own writing.own;
  }

  pub writing_call : (call : Call) → IsOwnCall May call → OnlyWrites May a (call ∷ b)
  writing_call (Measured id len) own = record { since = writing.since; made = writing.made; own = writing.own }
  writing_call (Read id start into got) own = record { since = writing.since; made = writing.made; own = writing.own }
  writing_call (Wrote id bytes did) own = made_more (Wrote id bytes did) own refl
  writing_call (Patched id start bytes did) own = made_more (Patched id start bytes did) own refl
  writing_call (Synced id did) own = made_more (Synced id did) own refl

pub writing_once : {May : FileId → Type 0} {a b : List Call} {call : Call} → b ≡ call ∷ a → IsOwnCall May call → OnlyWrites May a b
writing_once {May = May} {a = a} {call = call} is own = subst (OnlyWrites May a) (sym is) (writing_call writing_none call own)

pub writing_then : {May : FileId → Type 0} {a b c : List Call} → OnlyWrites May a b → OnlyWrites May b c → OnlyWrites May a c
writing_then {May = May} {a = a} first second = record {
  since = second.since ++ first.since;
  made = second.made ∙ ap (λ (l : List Call). second.since ++ l) first.made ∙ sym (append_assoc second.since first.since (writes_in a));
  own = All-append (IsOwnCall May) second.since first.since second.own first.own;
}

pub writing_wider : {May Other : FileId → Type 0} {a b : List Call} → ((q : FileId) → May q → Other q) → OnlyWrites May a b → OnlyWrites Other a b
writing_wider {May = May} {Other = Other} wider writing = record {
  since = writing.since;
  made = writing.made;
  own = All-weaker (IsOwnCall May) (IsOwnCall Other) more writing.since writing.own;
}
  where
    more : (call : Call) → IsOwnCall May call → IsOwnCall Other call
    more (Wrote id bytes did) own = wider id own
    more (Patched id start bytes did) own = wider id own
    more call own = tt
