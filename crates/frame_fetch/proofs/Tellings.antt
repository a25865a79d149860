-- What is said of a log that is told, carried on.
use Rattle.std.proofs.Common.{List, ◌++◌}
use Rattle.std.specs.Prelude.{Option, Some, None}
use Rattle.cf_base.specs.declared.key.Key.{Key}
use Rattle.frame_share.specs.Answers.{AsTold}
use Rattle.frame_share.specs.Share.{ShareView}
use Rattle.frame_fetch.specs.Sharing.{HasAsked, HasTried, WereAsked, WereTried}
use Rattle.frame_fetch.proofs.Logs.{asked_asked, asked_tried, tried_more}

pub told_as : (P Q : ShareView → ShareView → Type 0) (a b : Option ShareView) → ((x y : ShareView) → P x y → Q x y) → AsTold P a b → AsTold Q a b
told_as P Q None None then p = tt
told_as P Q None (Some b) then p = absurd p
told_as P Q (Some a) None then p = absurd p
told_as P Q (Some a) (Some b) then p = then a b p

pub told_along : (P Q R : ShareView → ShareView → Type 0) (a b c : Option ShareView) → ((x y z : ShareView) → P x y → Q y z → R x z) → AsTold P a b → AsTold Q b c → AsTold R a c
told_along P Q R None None None then p q = tt
told_along P Q R None None (Some c) then p q = absurd q
told_along P Q R None (Some b) c then p q = absurd p
told_along P Q R (Some a) None c then p q = absurd p
told_along P Q R (Some a) (Some b) None then p q = absurd q
told_along P Q R (Some a) (Some b) (Some c) then p q = then a b c p q

pub told_more : (ks ls : List Key) (a b : Option ShareView) → WereTried ks a b → WereTried (ks ++ ls) a b
told_more ks ls a b p = told_as (λ x y. HasTried x y ks) (λ x y. HasTried x y (ks ++ ls)) a b (λ x y q. tried_more x y ks ls q) p

pub told_asked : (ks ls : List Key) (a b c : Option ShareView) → WereAsked ks a b → WereAsked ls b c → WereAsked (ks ++ ls) a c
told_asked ks ls a b c p q = told_along (λ x y. HasAsked x y ks) (λ x y. HasAsked x y ls) (λ x y. HasAsked x y (ks ++ ls)) a b c (λ x y z r s. asked_asked x y z ks ls r s) p q

pub told_tried : (ks ls : List Key) (a b c : Option ShareView) → WereAsked ks a b → WereTried ls b c → WereTried (ks ++ ls) a c
told_tried ks ls a b c p q = told_along (λ x y. HasAsked x y ks) (λ x y. HasTried x y ls) (λ x y. HasTried x y (ks ++ ls)) a b c (λ x y z r s. asked_tried x y z ks ls r s) p q
