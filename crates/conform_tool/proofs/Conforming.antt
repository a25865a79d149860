-- From a crew, and from a reply on one thread, to the answer of the top call.
use Rattle.std.proofs.Common.{◌≡◌, ℕ, ◌≤◌, List, Vec, Option, Some, None, Result, Ok, Err, IfErr, MatchResult, refl, sym, ◌∙◌, ap, subst, inl, inr}
use Rattle.std.specs.declared.alloc.Global.{Global}
use Rattle.std.proofs.lemmas.Option.{same_Some}
use Rattle.cf_base.specs.Sink.{SinkState}
use Rattle.cf_base.specs.Count.{HasRisen}
use Rattle.scan_source.specs.State.{ScanState}
use Rattle.frame_range.specs.declared.range.Extent.{Extent}
use Rattle.command_words.specs.Commands.{Spells}
use Rattle.command_words.specs.declared.command.Command.{Command}
use Rattle.command_words.specs.declared.command.Command.TheVariants as commands
use Rattle.command_words.proofs.Commands.{one_spelled}
use Rattle.printed_lines.specs.Lines.{line_of, IsMade}
use Rattle.outcome.specs.declared.Outcome.{Outcome}
use Rattle.outcome.specs.declared.Outcome.TheVariants as outcomes
use Rattle.project_crew.specs.Crew.{HasFailed, IsCrewReply, told_by}
use Rattle.reel_disk.specs.State.{FolderState}
use Rattle.project_run.specs.Calls.{IsLeftAlone}
use Rattle.project_run.specs.Run.{IsOfRun}
use Rattle.command_answers.specs.Answer.{IsFoundIn, IsPut, IsLinePut}
use Rattle.command_answers.proofs.Answering.{done_unrefused, put_refused}
use Rattle.command_answers.proofs.Replies.{came_without}
use Rattle.conform_tool.specs.Conform.{AnsweredByCrew, IsAlone, IsCausedByCrew}

module _ {S : Type 0} (state : S → ScanState) (path : List ℕ) (extent : Extent) (workers share : ℕ) (scans scans_after : List S) (disk disk_after : FolderState) where
  -- a line for which no memory is left: the outcome is another, and all else is as it was
  crew_memory : (outcome : Outcome) (output : List ℕ) → IsMade outcome → IsCrewReply state path extent workers share scans scans_after disk disk_after outcome output
      → IsCrewReply state path extent workers share scans scans_after disk disk_after outcomes.NoMemory (line_of outcomes.NoMemory)
  crew_memory outcome output made (inl crewed) = inl (record {
    job = crewed.job;
    comes = crewed.comes;
    planned = crewed.planned;
    texts = crewed.texts;
    inspected = crewed.inspected;
    ran = let ran = crewed.ran in record {
      how = ran.how;
      report = ran.report;
      reply = record { reached_is = inr refl; form = λ same. absurd (cc) };
      frames = ran.frames;
      steps = ran.steps;
      log = ran.log;
      ran = ran.ran;
      keeps = ran.keeps;
      scans = ran.scans;
      changed = ran.changed;
    };
  })
  crew_memory outcome output made (inr uncrewed) = inr (record {
    why = came_without (told_by state scans) path;
    kind = tt;
    untouched = uncrewed.untouched;
    size = uncrewed.size;
    texts = uncrewed.texts;
    refused = λ scan refusal same. absurd (cc);
    refused_heads = λ scan refusal same. absurd (cc);
    last = λ same. absurd (cc);
    steady = λ other. uncrewed.steady (λ is. subst IsMade is made);
    later = uncrewed.later;
    told = uncrewed.told;
    lent = uncrewed.lent;
    others = uncrewed.others;
  })

  crewed_memory : (outcome : Outcome) (output : List ℕ) → IsMade outcome → IsCausedByCrew state path extent workers share scans scans_after disk disk_after outcome output
      → IsCausedByCrew state path extent workers share scans scans_after disk disk_after outcomes.NoMemory (line_of outcomes.NoMemory)
  crewed_memory outcome output made crewed = record {
    reply = crew_memory outcome output made crewed.reply;
    line = λ _. refl;
    kind = inr tt;
    source_fault = λ is. absurd (cc);
    disk_fault = λ is. absurd (cc);
    disk_later = crewed.disk_later;
  }

  pub crew_answered : (r : Result (Vec ℕ Global) Outcome) (sink sink_after : SinkState) (result : Outcome)
      → MatchResult r (λ output. IsPut sink sink_after outcomes.Done output.items result) (λ outcome. IsLinePut sink sink_after outcome result)
      → MatchResult r (λ text. IsCrewReply state path extent workers share scans scans_after disk disk_after outcomes.Done text.items) (λ outcome. IsCrewReply state path extent workers share scans scans_after disk disk_after outcome (line_of outcome))
      → MatchResult r (λ text. Unit {0}) IsOfRun
      → (r ≡ Err outcomes.SourceFault → HasFailed state scans scans_after)
      → (r ≡ Err outcomes.DiskFault → HasRisen disk.faults disk_after.faults)
      → disk.faults ≤ disk_after.faults
      → AnsweredByCrew state path extent workers share scans scans_after disk disk_after sink sink_after result
  crew_answered (Ok text) sink sink_after result put reply kind source failed later = record {
    reached = outcomes.Done;
    output = text.items;
    put = put;
    crewed = inl (record {
      reply = reply;
      line = λ other. absurd (other refl);
      kind = inl refl;
      source_fault = λ is. absurd (cc);
      disk_fault = λ is. absurd (cc);
      disk_later = later;
    });
  }
  crew_answered (Err outcome) sink sink_after result (inl put) reply kind source failed later = record {
    reached = outcome;
    output = line_of outcome;
    put = put;
    crewed = inl (record {
      reply = reply;
      line = λ _. refl;
      kind = inr kind;
      source_fault = λ is. source (ap Err is);
      disk_fault = λ is. failed (ap Err is);
      disk_later = later;
    });
  }
  crew_answered (Err outcome) sink sink_after result (inr put) reply kind source failed later = record {
    reached = outcomes.NoMemory;
    output = line_of outcomes.NoMemory;
    put = put.1;
    crewed = inl (crewed_memory outcome (line_of outcome) put.0 (record {
      reply = reply;
      line = λ _. refl;
      kind = inr kind;
      source_fault = λ is. source (ap Err is);
      disk_fault = λ is. failed (ap Err is);
      disk_later = later;
    }));
  }

  pub crew_unread : (sink sink_after : SinkState) (result : Outcome) → scans_after ≡ scans → disk_after ≡ disk → IsLinePut sink sink_after outcomes.NoMemory result
      → AnsweredByCrew state path extent workers share scans scans_after disk disk_after sink sink_after result
  crew_unread sink sink_after result untouched_scans untouched_disk (inl put) = record {
    reached = outcomes.NoMemory;
    output = line_of outcomes.NoMemory;
    put = put;
    crewed = inr (record { reached_is = refl; line = refl; untouched_scans = untouched_scans; untouched_disk = untouched_disk });
  }
  crew_unread sink sink_after result untouched_scans untouched_disk (inr put) = absurd put.0

-- what a refusal leaves alone, by the answer that was put
pub put_left : {D : Type 0} (r : Result (Vec ℕ Global) Outcome) (sink sink_after : SinkState) (result : Outcome) (before after : D)
    → MatchResult r (λ output. IsPut sink sink_after outcomes.Done output.items result) (λ outcome. IsLinePut sink sink_after outcome result)
    → IfErr r (IsLeftAlone before after) → IsLeftAlone before after result
put_left (Ok text) sink sink_after result before after put left = λ refused. absurd (done_unrefused sink sink_after text.items result put refused)
put_left (Err outcome) sink sink_after result before after put left = λ refused. left (put_refused sink sink_after outcome result put refused)

-- words spell what was found of them, and nothing else
spelled_found : (words : List (List ℕ)) (found : Option Command) (command : Command) → IsFoundIn words found → Spells words command → found ≡ Some command
spelled_found words None command says spells = absurd (says command spells)
spelled_found words (Some other) command says spells = ap Some (one_spelled words other command says spells)

-- a crew's run is the one that the words spell
pub run_found : (words : List (List ℕ)) (found : Option Command) (p path : List ℕ) (e extent : Extent) (w s workers share : ℕ) → IsFoundIn words found → found ≡ Some (commands.Run p e w s) → Spells words (commands.Run path extent workers share) → (p ≡ path) × (e ≡ extent) × (w ≡ workers) × (s ≡ share)
run_found words found p path e extent w s workers share says is spells =
    let one = same_Some _ _ (sym is ∙ spelled_found words found (commands.Run path extent workers share) says spells) in (cc, cc, cc, cc)

pub found_run : (words : List (List ℕ)) (found : Option Command) (p : List ℕ) (e : Extent) (w s : ℕ) → IsFoundIn words found → found ≡ Some (commands.Run p e w s) → Spells words (commands.Run p e w s)
found_run words found p e w s says is = subst (IsFoundIn words) is says

pub found_command : (words : List (List ℕ)) (found : Option Command) (command : Command) (p : List ℕ) (e : Extent) (w s : ℕ) → IsFoundIn words found → found ≡ Some (commands.Run p e w s) → Spells words command → command ≡ commands.Run p e w s
found_command words found command p e w s says is spells = same_Some _ _ (sym (spelled_found words found command says spells) ∙ is)

-- an adoption is no run
pub adopts_no_run : (path old_path p : List ℕ) (e : Extent) (w s : ℕ) → commands.Adopt path old_path ≡ commands.Run p e w s → ⊥
adopts_no_run path old_path p e w s is = cc

-- where no run with several workers was found, the words spell none
pub alone_found : (words : List (List ℕ)) (found : Option Command) → IsFoundIn words found → ((path : List ℕ) (extent : Extent) (workers share : ℕ) → found ≡ Some (commands.Run path extent workers share) → workers ≤ 1) → IsAlone words
alone_found words found says none path extent workers share spells = none path extent workers share (spelled_found words found (commands.Run path extent workers share) says spells)

-- the same answer, by the words
pub crew_as : {S : Type 0} (state : S → ScanState) (p path : List ℕ) (e extent : Extent) (w workers s share : ℕ) (scans scans_after : List S) (disk disk_after : FolderState) (sink sink_after : SinkState) (result : Outcome)
    → (p ≡ path) × (e ≡ extent) × (w ≡ workers) × (s ≡ share) → AnsweredByCrew state p e w s scans scans_after disk disk_after sink sink_after result → AnsweredByCrew state path extent workers share scans scans_after disk disk_after sink sink_after result
crew_as state p path e extent w workers s share scans scans_after disk disk_after sink sink_after result is answered =
    subst (λ q. AnsweredByCrew state q extent workers share scans scans_after disk disk_after sink sink_after result) is.0
    (subst (λ (x : Extent). AnsweredByCrew state p x workers share scans scans_after disk disk_after sink sink_after result) is.1
    (subst (λ n. AnsweredByCrew state p e n share scans scans_after disk disk_after sink sink_after result) is.2
    (subst (λ n. AnsweredByCrew state p e w n scans scans_after disk disk_after sink sink_after result) is.3 answered)))
