-- What words come to, by computation.
use Rattle.std.proofs.Common.{◌≡◌, ◌∙◌, inl, ap, refl, subst, sym, arith, ℕ, List, [], ◌∷◌, Bool, true, false, Option, Some, None, IsSomeAnd, codes}
use Rattle.std.specs.Prelude.{◌||◌}
use Rattle.std.specs.Option.{option_map_or}
use Rattle.std.proofs.lemmas.Bool.{true≢false}
use Rattle.clap.specs.Faults.{fault_of}
use Rattle.clap.specs.Kinds.{IsAmong, Kinds}
use Rattle.clap.specs.Simple.{matches_of}
use Rattle.clap.specs.Walk.{Row, Text, first_of, one_of}
use Rattle.clap.specs.declared.error.kind.ErrorKind.{ErrorKind}
use Rattle.clap.specs.declared.error.kind.ErrorKind.TheVariants.{ArgumentConflict, MissingRequiredArgument, UnknownArgument, ValueValidation}
use Rattle.clap.proofs.OnLiterals.{clap_on_literals}
use Rattle.cf_base.specs.declared.timing.Rate.TheVariants.{R24}
use Rattle.command_words.specs.Commands.{Gives, IsNoCommand, Spells}
use Rattle.frame_range.specs.declared.range.Extent.TheVariants.{Whole}
use Rattle.command_words.specs.Lines.{IsNumber, LineText, MakesLine, simple_command, stands}
use Rattle.command_words.specs.declared.command.Command.TheVariants as commands
use Rattle.command_words.proofs.Commands.{given_is_named, named}
use Rattle.command_words.proofs.Lines.{one_line}

-- what `clap` gives of the words: why it refuses them, the three positionals, the two options, and whether one is given
record Seen : Type 0 where
  fault : Kinds
  command : Option Text
  subject : Option Text
  extra : Option Text
  workers : Option Text
  share : Option Text
  given : Bool

abbrev seen_in : Kinds → List Row → Seen
seen_in fault rows = record {
  fault = fault;
  command = first_of (codes "command") rows;
  subject = first_of (codes "subject") rows;
  extra = first_of (codes "extra") rows;
  workers = one_of (codes "workers") rows;
  share = one_of (codes "share") rows;
  given = stands (codes "workers") rows || stands (codes "share") rows;
}

abbrev seen : List Text → Seen
seen words = seen_in (fault_of simple_command words) (matches_of simple_command words)

-- the same of a line whose options are these texts
abbrev shown : LineText → Text → Text → Seen
shown line workers share = record {
  fault = [];
  command = Some line.command;
  subject = Some line.subject;
  extra = line.extra;
  workers = Some workers;
  share = Some share;
  given = line.has_options;
}

number_is : (text : Option Text) (t : Text) (n : ℕ) → text ≡ Some t → IsNumber n t → IsSomeAnd text (IsNumber n)
number_is text t n e h = subst (λ o. IsSomeAnd o (IsNumber n)) (sym e) h

makes : (words : List Text) (line : LineText) (workers share : Text) → seen words ≡ shown line workers share
    → IsNumber line.workers workers → IsNumber line.share share → MakesLine words line
makes words line workers share e w s = (
  ap (λ x. x.fault) e,
  record {
    command = ap (λ x. x.command) e;
    subject = ap (λ x. x.subject) e;
    extra = ap (λ x. x.extra) e;
    workers = number_is _ workers line.workers (ap (λ x. x.workers) e) w;
    share = number_is _ share line.share (ap (λ x. x.share) e) s;
    options = sym (ap (λ x. x.given) e);
  },
)

no_row : (words : List Text) (line : LineText) (workers share : Text) → seen words ≡ shown line workers share
    → IsNumber line.workers workers → IsNumber line.share share → named line ≡ None → IsNoCommand words
no_row words line workers share e w s none command spells =
    let made = makes words line workers share e w s in
    let same = one_line (matches_of simple_command words) spells.0 line spells.1.1 made.1 in
    let given : Gives line command = subst (λ l. Gives l command) same spells.2 in
    let is_command : option_map_or (λ c. true) (Some command) false ≡ false = ap (λ o. option_map_or (λ c. true) o false) (sym (given_is_named line command given) ∙ none) in
    absurd (true≢false is_command)

refused : (words : List Text) (k : ErrorKind) → fault_of simple_command words ≡ k ∷ [] → IsNoCommand words
refused words k e command spells = subst (IsAmong k) (sym e ∙ spells.1.0) (inl refl)

abbrev line_with : Text → Text → Option Text → ℕ → ℕ → Bool → LineText
line_with command subject extra workers share given = record {
  command = command;
  subject = subject;
  extra = extra;
  workers = workers;
  share = share;
  has_options = given;
}

-- ---- the numbers of the rows

is_2 : IsNumber 2 (codes "2")
is_2 = (((omega arith, (omega arith, tt)), refl), (omega arith, omega arith))

is_3 : IsNumber 3 (codes "3")
is_3 = (((omega arith, (omega arith, tt)), refl), (omega arith, omega arith))

is_4 : IsNumber 4 (codes "4")
is_4 = (((omega arith, (omega arith, tt)), refl), (omega arith, omega arith))

is_8 : IsNumber 8 (codes "8")
is_8 = (((omega arith, (omega arith, tt)), refl), (omega arith, omega arith))

is_plus_3 : IsNumber 3 (codes "+3")
is_plus_3 = (((omega arith, (omega arith, tt)), refl), (omega arith, omega arith))

is_003 : IsNumber 3 (codes "003")
is_003 = (((omega arith, (omega arith, (omega arith, (omega arith, tt)))), refl), (omega arith, omega arith))

-- ---- words that spell a command

frame_spelled : Spells (codes "frame" ∷ codes "two.dpx" ∷ []) (commands.Frame (codes "two.dpx"))
unfolding simple_command clap_on_literals
frame_spelled = (line_with (codes "frame") (codes "two.dpx") None 4 8 false, makes (codes "frame" ∷ codes "two.dpx" ∷ []) _ (codes "4") (codes "8") refl is_4 is_8, (record { command = refl; extra = refl; options = refl }, refl))

frame_after_dashes : Spells (codes "--" ∷ codes "frame" ∷ codes "two.dpx" ∷ []) (commands.Frame (codes "two.dpx"))
unfolding simple_command clap_on_literals
frame_after_dashes = (line_with (codes "frame") (codes "two.dpx") None 4 8 false, makes (codes "--" ∷ codes "frame" ∷ codes "two.dpx" ∷ []) _ (codes "4") (codes "8") refl is_4 is_8, (record { command = refl; extra = refl; options = refl }, refl))

frame_of_a_dash : Spells (codes "frame" ∷ codes "-" ∷ []) (commands.Frame (codes "-"))
unfolding simple_command clap_on_literals
frame_of_a_dash = (line_with (codes "frame") (codes "-") None 4 8 false, makes (codes "frame" ∷ codes "-" ∷ []) _ (codes "4") (codes "8") refl is_4 is_8, (record { command = refl; extra = refl; options = refl }, refl))

list_spelled : Spells (codes "list" ∷ codes "a.edl" ∷ codes "24" ∷ []) (commands.List (codes "a.edl") R24)
unfolding simple_command clap_on_literals
list_spelled = (line_with (codes "list") (codes "a.edl") (Some (codes "24")) 4 8 false, makes (codes "list" ∷ codes "a.edl" ∷ codes "24" ∷ []) _ (codes "4") (codes "8") refl is_4 is_8, (record { command = refl; extra = refl; options = refl }, refl))

run_spelled : Spells (codes "run" ∷ codes "desk.toml" ∷ []) (commands.Run (codes "desk.toml") Whole 4 8)
unfolding simple_command clap_on_literals
run_spelled = (line_with (codes "run") (codes "desk.toml") None 4 8 false, makes (codes "run" ∷ codes "desk.toml" ∷ []) _ (codes "4") (codes "8") refl is_4 is_8, (record { command = refl; extra = refl }, refl, refl, refl))

run_with_options : Spells (codes "run" ∷ codes "desk.toml" ∷ codes "--workers=3" ∷ codes "--share=2" ∷ []) (commands.Run (codes "desk.toml") Whole 3 2)
unfolding simple_command clap_on_literals
run_with_options = (line_with (codes "run") (codes "desk.toml") None 3 2 true, makes (codes "run" ∷ codes "desk.toml" ∷ codes "--workers=3" ∷ codes "--share=2" ∷ []) _ (codes "3") (codes "2") refl is_3 is_2, (record { command = refl; extra = refl }, refl, refl, refl))

options_before_run : Spells (codes "--workers" ∷ codes "3" ∷ codes "run" ∷ codes "desk.toml" ∷ []) (commands.Run (codes "desk.toml") Whole 3 8)
unfolding simple_command clap_on_literals
options_before_run = (line_with (codes "run") (codes "desk.toml") None 3 8 true, makes (codes "--workers" ∷ codes "3" ∷ codes "run" ∷ codes "desk.toml" ∷ []) _ (codes "3") (codes "8") refl is_3 is_8, (record { command = refl; extra = refl }, refl, refl, refl))

options_after_run : Spells (codes "run" ∷ codes "--share" ∷ codes "2" ∷ codes "desk.toml" ∷ []) (commands.Run (codes "desk.toml") Whole 4 2)
unfolding simple_command clap_on_literals
options_after_run = (line_with (codes "run") (codes "desk.toml") None 4 2 true, makes (codes "run" ∷ codes "--share" ∷ codes "2" ∷ codes "desk.toml" ∷ []) _ (codes "4") (codes "2") refl is_4 is_2, (record { command = refl; extra = refl }, refl, refl, refl))

workers_with_a_plus : Spells (codes "run" ∷ codes "desk.toml" ∷ codes "--workers" ∷ codes "+3" ∷ []) (commands.Run (codes "desk.toml") Whole 3 8)
unfolding simple_command clap_on_literals
workers_with_a_plus = (line_with (codes "run") (codes "desk.toml") None 3 8 true, makes (codes "run" ∷ codes "desk.toml" ∷ codes "--workers" ∷ codes "+3" ∷ []) _ (codes "+3") (codes "8") refl is_plus_3 is_8, (record { command = refl; extra = refl }, refl, refl, refl))

workers_with_zeros : Spells (codes "run" ∷ codes "desk.toml" ∷ codes "--workers" ∷ codes "003" ∷ []) (commands.Run (codes "desk.toml") Whole 3 8)
unfolding simple_command clap_on_literals
workers_with_zeros = (line_with (codes "run") (codes "desk.toml") None 3 8 true, makes (codes "run" ∷ codes "desk.toml" ∷ codes "--workers" ∷ codes "003" ∷ []) _ (codes "003") (codes "8") refl is_003 is_8, (record { command = refl; extra = refl }, refl, refl, refl))

demo_with_zeros : Spells (codes "demo" ∷ codes "0004" ∷ []) (commands.Demo 4)
unfolding simple_command clap_on_literals
demo_with_zeros = (line_with (codes "demo") (codes "0004") None 4 8 false, makes (codes "demo" ∷ codes "0004" ∷ []) _ (codes "4") (codes "8") refl is_4 is_8, (record { command = refl; extra = refl; options = refl }, (((omega arith, (omega arith, (omega arith, (omega arith, (omega arith, tt))))), omega arith, refl, omega arith), omega arith)))

pull_spelled : Spells (codes "pull" ∷ codes "desk.toml" ∷ codes "02" ∷ []) (commands.Pull (codes "desk.toml") 2)
unfolding simple_command clap_on_literals
pull_spelled = (line_with (codes "pull") (codes "desk.toml") (Some (codes "02")) 4 8 false, makes (codes "pull" ∷ codes "desk.toml" ∷ codes "02" ∷ []) _ (codes "4") (codes "8") refl is_4 is_8, (record { command = refl; extra = ((omega arith, (omega arith, (omega arith, tt))), omega arith, refl, omega arith); options = refl }, refl))

-- ---- words that `clap` refuses

no_word : IsNoCommand ([])
unfolding simple_command clap_on_literals
no_word = refused ([]) MissingRequiredArgument refl

no_subject : IsNoCommand (codes "run" ∷ [])
unfolding simple_command clap_on_literals
no_subject = refused (codes "run" ∷ []) MissingRequiredArgument refl

help_is_unknown : IsNoCommand (codes "--help" ∷ [])
unfolding simple_command clap_on_literals
help_is_unknown = refused (codes "--help" ∷ []) UnknownArgument refl

shortened_option : IsNoCommand (codes "run" ∷ codes "desk.toml" ∷ codes "--work" ∷ codes "3" ∷ [])
unfolding simple_command clap_on_literals
shortened_option = refused (codes "run" ∷ codes "desk.toml" ∷ codes "--work" ∷ codes "3" ∷ []) UnknownArgument refl

no_worker : IsNoCommand (codes "run" ∷ codes "desk.toml" ∷ codes "--workers" ∷ codes "0" ∷ [])
unfolding simple_command clap_on_literals
no_worker = refused (codes "run" ∷ codes "desk.toml" ∷ codes "--workers" ∷ codes "0" ∷ []) ValueValidation refl

too_many_workers : IsNoCommand (codes "run" ∷ codes "desk.toml" ∷ codes "--workers" ∷ codes "17" ∷ [])
unfolding simple_command clap_on_literals
too_many_workers = refused (codes "run" ∷ codes "desk.toml" ∷ codes "--workers" ∷ codes "17" ∷ []) ValueValidation refl

workers_by_name : IsNoCommand (codes "run" ∷ codes "desk.toml" ∷ codes "--workers" ∷ codes "x" ∷ [])
unfolding simple_command clap_on_literals
workers_by_name = refused (codes "run" ∷ codes "desk.toml" ∷ codes "--workers" ∷ codes "x" ∷ []) ValueValidation refl

workers_twice : IsNoCommand (codes "run" ∷ codes "desk.toml" ∷ codes "--workers" ∷ codes "3" ∷ codes "--workers" ∷ codes "3" ∷ [])
unfolding simple_command clap_on_literals
workers_twice = refused (codes "run" ∷ codes "desk.toml" ∷ codes "--workers" ∷ codes "3" ∷ codes "--workers" ∷ codes "3" ∷ []) ArgumentConflict refl

-- ---- words that no row of the table takes

two_frames : IsNoCommand (codes "frame" ∷ codes "a" ∷ codes "b" ∷ [])
unfolding simple_command clap_on_literals
two_frames = no_row (codes "frame" ∷ codes "a" ∷ codes "b" ∷ []) (line_with (codes "frame") (codes "a") (Some (codes "b")) 4 8 false) (codes "4") (codes "8") refl is_4 is_8 refl

options_of_a_plan : IsNoCommand (codes "plan" ∷ codes "desk.toml" ∷ codes "--workers" ∷ codes "4" ∷ [])
unfolding simple_command clap_on_literals
options_of_a_plan = no_row (codes "plan" ∷ codes "desk.toml" ∷ codes "--workers" ∷ codes "4" ∷ []) (line_with (codes "plan") (codes "desk.toml") None 4 8 true) (codes "4") (codes "8") refl is_4 is_8 refl

another_rate : IsNoCommand (codes "list" ∷ codes "a.edl" ∷ codes "24.0" ∷ [])
unfolding simple_command clap_on_literals
another_rate = no_row (codes "list" ∷ codes "a.edl" ∷ codes "24.0" ∷ []) (line_with (codes "list") (codes "a.edl") (Some (codes "24.0")) 4 8 false) (codes "4") (codes "8") refl is_4 is_8 refl

no_rate : IsNoCommand (codes "list" ∷ codes "a.edl" ∷ [])
unfolding simple_command clap_on_literals
no_rate = no_row (codes "list" ∷ codes "a.edl" ∷ []) (line_with (codes "list") (codes "a.edl") None 4 8 false) (codes "4") (codes "8") refl is_4 is_8 refl

no_margin : IsNoCommand (codes "pull" ∷ codes "desk.toml" ∷ [])
unfolding simple_command clap_on_literals
no_margin = no_row (codes "pull" ∷ codes "desk.toml" ∷ []) (line_with (codes "pull") (codes "desk.toml") None 4 8 false) (codes "4") (codes "8") refl is_4 is_8 refl

another_word : IsNoCommand (codes "help" ∷ codes "run" ∷ [])
unfolding simple_command clap_on_literals
another_word = no_row (codes "help" ∷ codes "run" ∷ []) (line_with (codes "help") (codes "run") None 4 8 false) (codes "4") (codes "8") refl is_4 is_8 refl

no_path : IsNoCommand (codes "frame" ∷ codes "" ∷ [])
unfolding simple_command clap_on_literals
no_path = no_row (codes "frame" ∷ codes "" ∷ []) (line_with (codes "frame") (codes "") None 4 8 false) (codes "4") (codes "8") refl is_4 is_8 refl
