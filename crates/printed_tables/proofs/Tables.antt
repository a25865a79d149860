-- The event table from its pieces.
use Rattle.std.proofs.Common.{◌≡◌, ℕ, List, [], ◌∷◌, ◌++◌, length, codes, refl, subst}
use Rattle.std.specs.Prelude.{decimal}
use Rattle.std.specs.List.{flat_map}
use Rattle.std.proofs.lemmas.List.{append_assoc}
use Rattle.cf_base.specs.declared.timing.Rate.{Rate}
use Rattle.cf_base.specs.declared.timing.Mode.{Mode}
use Rattle.cf_base.specs.declared.event.EventRec.{EventRec}
use Rattle.cf_base.specs.declared.event.EventList.{EventList}
use Rattle.printed_text.specs.Text.{spaced_line}
use Rattle.printed_tables.specs.Table.{event_table, event_line, rate_word, mode_word, label_word, transition_word, speed_word}

-- words, each with a space behind it but for the last, make up the line
joined : (t n r a b c d x s : List ℕ)
    → t ++ n ++ 32 ∷ [] ++ r ++ 32 ∷ [] ++ a ++ 32 ∷ [] ++ b ++ 32 ∷ [] ++ c ++ 32 ∷ [] ++ d ++ 32 ∷ [] ++ x ++ 32 ∷ [] ++ s ++ 10 ∷ []
    ≡ t ++ spaced_line (n ∷ r ∷ a ∷ b ∷ c ∷ d ∷ x ∷ s ∷ [])
joined t n r a b c d x s = simp append_assoc refl

pub event_joined : (t : List ℕ) (rate : Rate) (mode : Mode) (e : EventRec)
    → t ++ decimal e.line ++ 32 ∷ [] ++ e.reel ++ 32 ∷ []
    ++ label_word rate e.src_mode e.src_in ++ 32 ∷ [] ++ label_word rate e.src_mode e.src_out ++ 32 ∷ []
    ++ label_word rate mode e.rec_in ++ 32 ∷ [] ++ label_word rate mode e.rec_out ++ 32 ∷ []
    ++ transition_word e.transition ++ 32 ∷ [] ++ speed_word e.speed ++ 10 ∷ []
    ≡ t ++ event_line rate mode e
unfolding event_line
event_joined t rate mode e = joined t (decimal e.line) e.reel _ _ _ _ (transition_word e.transition) (speed_word e.speed)

-- the label that was put is that of this number
pub label_put : (old new : List ℕ) (rate : Rate) (mode : Mode) (n m : ℕ) → new ≡ old ++ label_word rate mode n ++ 32 ∷ [] → n ≡ m → new ≡ old ++ label_word rate mode m ++ 32 ∷ []
label_put old new rate mode n m put is = subst (λ k. new ≡ old ++ label_word rate mode k ++ 32 ∷ []) is put

-- the number of the events closes the table
closed : (head lines count : List ℕ) → head ++ lines ++ codes "events " ++ count ++ 10 ∷ [] ≡ head ++ lines ++ spaced_line (codes "events" ∷ count ∷ [])
closed head lines count = simp append_assoc refl

pub table_joined : (rate : Rate) (list : EventList) (first : List EventRec) (counted : List EventRec) → first ≡ list.events → counted ≡ list.events
    → spaced_line (codes "rate" ∷ rate_word rate ∷ mode_word list.mode ∷ []) ++ flat_map (event_line rate list.mode) first ++ codes "events " ++ decimal (length counted) ++ 10 ∷ []
    ≡ event_table rate list
unfolding event_table
table_joined rate list first counted same number =
    rw (same, number) (closed (spaced_line (codes "rate" ∷ rate_word rate ∷ mode_word list.mode ∷ [])) (flat_map (event_line rate list.mode) list.events) (decimal (length list.events)))
