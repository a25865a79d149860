-- The calls are on the file alone.
use Rattle.std.proofs.Common.{◌≡◌, refl}
use Rattle.reel_writer.proofs.ReadCalls.{made_one, made_two}
use Rattle.reel_writer.proofs.whole.read_whole.Goals as goal

pub returns-in-Absent-clause-on : goal.returns-in-Absent-clause-on
returns-in-Absent-clause-on g c = made_one (λ q. q ≡ c.args.id) _ _ _ refl c.length.ensures.call

pub returns-in-Failed-clause-on : goal.returns-in-Failed-clause-on
returns-in-Failed-clause-on g c = made_one (λ q. q ≡ c.args.id) _ _ _ refl c.length.ensures.call

pub returns-then-len-into-clause-on : goal.returns-then-len-into-clause-on
returns-then-len-into-clause-on g c = made_one (λ q. q ≡ c.args.id) _ _ _ refl c.length.ensures.call

pub returns-in-Bytes-clause-on : goal.returns-in-Bytes-clause-on
returns-in-Bytes-clause-on g c = made_two (λ q. q ≡ c.args.id) _ _ _ _ _ refl refl c.length.ensures.call c.read.ensures.call

pub returns-in-Absent-read-clause-on : goal.returns-in-Absent-read-clause-on
returns-in-Absent-read-clause-on g c = made_two (λ q. q ≡ c.args.id) _ _ _ _ _ refl refl c.length.ensures.call c.read.ensures.call

pub returns-in-Failed-read-clause-on : goal.returns-in-Failed-read-clause-on
returns-in-Failed-read-clause-on g c = made_two (λ q. q ≡ c.args.id) _ _ _ _ _ refl refl c.length.ensures.call c.read.ensures.call
