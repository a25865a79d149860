-- Worked examples, by computation.
use Rattle.std.proofs.Common.{◌≡◌, refl, inl, inr, lit<}
use Rattle.std.specs.Prelude.{codes, Ok, Err}
use Rattle.cf_base.specs.declared.timing.Rate.TheVariants.{R24, R30}
use Rattle.cf_base.specs.declared.timing.Mode.TheVariants.{NonDrop, Drop}
use Rattle.cf_timecode.specs.declared.TcFault.TheVariants.{Shape, Range, Dropped, DropMark}
use Rattle.cf_timecode.specs.Counting.{label_after, number_of, IsBefore}
use Rattle.cf_timecode.proofs.Laws.{reached}
use Rattle.cf_timecode.specs.Spelling.{parsed, bcd_of}

-- counting itself, step by step
a_minute : label_after R30 Drop 1800 ≡ record { h = 0; m = 1; s = 0; f = 2 }
a_minute = refl

parsed_minute : parsed R30 Drop (codes "00:01:00;02") ≡ Ok (record { h = 0; m = 1; s = 0; f = 2 })
parsed_minute = refl

passed_over : parsed R30 Drop (codes "00:01:00;00") ≡ Err Dropped
passed_over = refl

drop_mark : parsed R30 NonDrop (codes "00:01:00;02") ≡ Err DropMark
drop_mark = refl

an_hour : parsed R24 NonDrop (codes "01:00:00:00") ≡ Ok (record { h = 1; m = 0; s = 0; f = 0 })
an_hour = refl

no_frame_24 : parsed R24 NonDrop (codes "01:00:00:24") ≡ Err Range
no_frame_24 = refl

one_digit : parsed R24 NonDrop (codes "1:00:00:00") ≡ Err Shape
one_digit = refl

digits : bcd_of (record { h = 1; m = 0; s = 0; f = 0 }) ≡ 0x0100_0000
digits = refl

ten_minutes : label_after R30 Drop 17982 ≡ record { h = 0; m = 10; s = 0; f = 0 }
ten_minutes = refl

hour_24 : label_after R24 NonDrop 86400 ≡ record { h = 1; m = 0; s = 0; f = 0 }
hour_24 = refl

-- too many steps to make one by one: by the law on numbers
last_of_day : label_after R30 Drop 2589407 ≡ record { h = 23; m = 59; s = 59; f = 29 }
last_of_day = reached R30 Drop tt (record { h = 23; m = 59; s = 59; f = 29 }) (refl, refl)

-- the last label of a minute, and the first one behind those that are passed over
minute_order : IsBefore (record { h = 0; m = 0; s = 59; f = 29 }) (record { h = 0; m = 1; s = 0; f = 2 })
minute_order = inr (inl (refl, lit< tt))

end_of_minute : number_of R30 Drop (record { h = 0; m = 0; s = 59; f = 29 }) ≡ 1799
end_of_minute = refl

next_minute : number_of R30 Drop (record { h = 0; m = 1; s = 0; f = 2 }) ≡ 1800
next_minute = refl

-- a later hour counts more than greater minutes, seconds and frames
hour_order : IsBefore (record { h = 0; m = 59; s = 59; f = 23 }) (record { h = 1; m = 0; s = 0; f = 0 })
hour_order = inl (lit< tt)

end_of_hour : number_of R24 NonDrop (record { h = 0; m = 59; s = 59; f = 23 }) ≡ 86399
end_of_hour = refl

next_hour : number_of R24 NonDrop (record { h = 1; m = 0; s = 0; f = 0 }) ≡ 86400
next_hour = refl
