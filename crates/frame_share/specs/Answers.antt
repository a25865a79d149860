-- What the calls on a share answer.
-- * answers of a share; units [Units]: what an ask and a put answer, and what each makes of the log, where that is told; shares of
--   the total of misses, and how many misses have had no put
use Rattle.std.specs.Prelude.{◌≡◌, true, false, Option, Some, None}
use Rattle.cf_base.specs.declared.key.Key.{Key}
use Rattle.frame_share.specs.declared.share.Ask.{Ask as Answer}
use Rattle.frame_share.specs.declared.share.Ask.TheVariants as answers
use Rattle.frame_share.specs.declared.share.Placed.{Placed}
use Rattle.frame_share.specs.declared.share.Placed.TheVariants.{Kept, Left, NoMemory}
use Rattle.frame_share.specs.declared.step.ShareStep.TheVariants.{Ask, Put}
use Rattle.frame_share.specs.Share.{ShareView, has_key, with_step}
use Rattle.frame_share.specs.Units.{IsPlaced, Tally, missed}

-- The ask found the frame of the key, which is there; or the key isn't there, and the ticket has it; or nothing was done.
abbrev pub IsAsked : {N : Type 0} → ShareView → Key → Answer N → ShareView → Type 0
IsAsked before key (answers.Hit frame) after = (has_key before.capacity before.steps key ≡ true)
    × (frame.value.key ≡ key) × (after ≡ with_step before (Ask key true))
IsAsked before key (answers.Miss ticket) after = (has_key before.capacity before.steps key ≡ false)
    × (ticket ≡ key) × (after ≡ with_step before (Ask key false))
IsAsked before key answers.NoMemory after = after ≡ before

abbrev pub IsAskedBy : {N : Type 0} → Tally → Answer N → Tally → Type 0
IsAskedBy before (answers.Hit frame) after = after ≡ before
IsAskedBy before (answers.Miss ticket) after = after ≡ missed before
IsAskedBy before answers.NoMemory after = after ≡ before

-- The frame is there, as the last used; or it was left, and wasn't there; or nothing was done.
abbrev pub IsPut : ShareView → Key → Placed → ShareView → Type 0
IsPut before key Kept after = after ≡ with_step before (Put key true)
IsPut before key Left after = (has_key before.capacity before.steps key ≡ false) × (after ≡ with_step before (Put key false))
IsPut before key NoMemory after = after ≡ before

abbrev pub IsPutBy : Tally → Placed → Tally → Type 0
IsPutBy before Kept after = IsPlaced before after
IsPutBy before Left after = IsPlaced before after
IsPutBy before NoMemory after = after ≡ before

-- What an answer says by itself, also where nothing is known of the share: the frame has the key, and so has the ticket.
abbrev pub HasKey : {N : Type 0} → Key → Answer N → Type 0
HasKey key (answers.Hit frame) = frame.value.key ≡ key
HasKey key (answers.Miss ticket) = ticket ≡ key
HasKey key answers.NoMemory = Unit {0}

-- said of what a share was before and is after, where both are told; told of one alone it never is
abbrev pub AsTold : (ShareView → ShareView → Type 0) → Option ShareView → Option ShareView → Type 0
AsTold Said None None = Unit {0}
AsTold Said None (Some after) = ⊥
AsTold Said (Some before) None = ⊥
AsTold Said (Some before) (Some after) = Said before after
