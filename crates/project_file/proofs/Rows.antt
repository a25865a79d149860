-- What some texts and tables come to, by computation.
use Rattle.std.proofs.Common.{◌≡◌, refl, codes, List, ℕ, Some, None, pos, negsuc, true, Ok, Err, [], ◌∷◌}
use Rattle.cf_base.specs.declared.timing.Rate.TheVariants.{R24, R30}
use Rattle.cf_base.specs.declared.timing.Mode.TheVariants.{Drop}
use Rattle.cf_base.specs.Rgb.{codes_of}
use Rattle.toml.specs.Data.{array, boolean, integer, item, member, no_items, no_members, string, table, Data, Members}
use Rattle.toml.specs.Parse.{parse_document}
use Rattle.toml.proofs.OnLiterals.{toml_on_literals}
use Rattle.project_file.specs.Keys.{fault}
use Rattle.project_file.specs.inside.Keys.{seen_as}
use Rattle.project_file.specs.Projects.{black_at, cuts_at, label_number, mode_at, place, project_of, rate_at, reel_of, top, usual_black, width_in}
use Rattle.project_file.specs.declared.fault.ProjectKind.TheVariants.{MissingKey, OutOfRange, UnknownKey, WrongType}

-- ---- texts and their tables, whose keys ascend

abbrev lines : List ℕ
lines = codes "rate = 24\nwidth = 2048\nheight = 1556\nedl = \"a.edl\"\n"

abbrev small : Members → Members
small more = member (codes "edl") (string (codes "a.edl")) (member (codes "height") (integer (pos 1556))
    (member (codes "rate") (integer (pos 24)) (member (codes "width") (integer (pos 2048)) more)))

small_read : parse_document lines ≡ Some (small no_members)
unfolding toml_on_literals
small_read = refl

brackets : parse_document (codes "title = [[[[") ≡ None
unfolding toml_on_literals
brackets = refl

twice : parse_document (codes "rate = 24\nrate = 24\n") ≡ None
unfolding toml_on_literals
twice = refl

-- ---- keys at the top

nothing : project_of no_members ≡ Err (fault MissingKey (top 2))
nothing = refl

defaults : project_of (small no_members) ≡ Ok (record {
  title = [];
  rate = R24;
  width = 2048;
  height = 1556;
  black = usual_black;
  bands = 4;
  edl = codes "a.edl";
  cube = None;
  reels = [];
  cuts = [];
})
defaults = refl

another_key : project_of (small (member (codes "zoo") (integer (pos 1)) no_members)) ≡ Err (fault UnknownKey (top 0))
another_key = refl

wrong_title : project_of (small (member (codes "title") (integer (pos 1)) no_members)) ≡ Err (fault WrongType (top 1))
wrong_title = refl

-- the title is checked before the rate, though it comes behind it in the table
title_first : project_of (member (codes "rate") (integer (pos 23)) (member (codes "title") (integer (pos 1)) no_members)) ≡ Err (fault WrongType (top 1))
title_first = refl

rate_text : rate_at (string (codes "24")) ≡ Err (fault WrongType (top 2))
rate_text = refl

rate_29 : rate_at (integer (pos 29)) ≡ Err (fault OutOfRange (top 2))
rate_29 = refl

rate_30 : rate_at (integer (pos 30)) ≡ Ok R30
rate_30 = refl

width_most : width_in (member (codes "width") (integer (pos 4096)) no_members) ≡ Ok 4096
width_most = refl

width_over : width_in (member (codes "width") (integer (pos 4097)) no_members) ≡ Err (fault OutOfRange (top 3))
width_over = refl

width_below : width_in (member (codes "width") (integer (negsuc 0)) no_members) ≡ Err (fault OutOfRange (top 3))
width_below = refl

black_of_three : seen_as codes_of (black_at (array (item (integer (pos 0)) (item (integer (pos 512)) (item (integer (pos 1023)) no_items))))) ≡ Ok (0 ∷ 512 ∷ 1023 ∷ [])
black_of_three = refl

black_over : black_at (array (item (integer (pos 0)) (item (integer (pos 512)) (item (integer (pos 1024)) no_items)))) ≡ Err (fault OutOfRange (top 5))
black_over = refl

black_of_two : black_at (array (item (integer (pos 1)) (item (integer (pos 2)) no_items))) ≡ Err (fault OutOfRange (top 5))
black_of_two = refl

-- the type of all members comes before the length
black_of_text : black_at (array (item (integer (pos 1)) (item (string []) no_items))) ≡ Err (fault WrongType (top 5))
black_of_text = refl

-- ---- cuts

two_cuts : cuts_at (array (item (string (codes "01:00:00:12")) (item (string (codes "x")) no_items))) ≡ Ok (codes "01:00:00:12" ∷ codes "x" ∷ [])
two_cuts = refl

-- the type of all members comes before the range of the first
cut_of_number : cuts_at (array (item (string []) (item (integer (pos 1)) no_items))) ≡ Err (fault WrongType (top 16))
cut_of_number = refl

empty_cut : cuts_at (array (item (string (codes "x")) (item (string []) no_items))) ≡ Err (fault OutOfRange (top 16))
empty_cut = refl

no_list_of_cuts : cuts_at (string (codes "01:00:00:12")) ≡ Err (fault WrongType (top 16))
no_list_of_cuts = refl

-- the cuts are checked after the list of reels, and before the reels
cuts_after_list : project_of (small (member (codes "reel") (integer (pos 1)) no_members)) ≡ Err (fault WrongType (top 9))
cuts_after_list = refl

cuts_before_reels : project_of (member (codes "cuts") (integer (pos 1)) (small (member (codes "reel") (array (item (table no_members) no_items)) no_members)))
    ≡ Err (fault WrongType (top 16))
cuts_before_reels = refl

-- ---- reels

abbrev reel : Data → Data → Members
reel start name = member (codes "frames") (integer (pos 48)) (member (codes "name") name (member (codes "prefix") (string (codes "a001/a001.")) (member (codes "start") start no_members)))

one_hour : reel_of R24 1 (reel (string (codes "01:00:00:00")) (string (codes "A001")))
    ≡ Ok (record { name = codes "A001"; prefix = codes "a001/a001."; start = 86400; day = 2073600; frames = 48; file = 86400 })
one_hour = refl

black_reel : reel_of R24 1 (reel (string (codes "01:00:00:00")) (string (codes "BL"))) ≡ Err (fault OutOfRange (place 1 10))
black_reel = refl

no_label : reel_of R24 2 (reel (string (codes "01:00:00:24")) (string (codes "A001"))) ≡ Err (fault OutOfRange (place 2 12))
no_label = refl

no_name : project_of (small (member (codes "reel") (array (item (table no_members) no_items)) no_members)) ≡ Err (fault MissingKey (place 1 10))
no_name = refl

-- drop frames are checked before the start
drop_at_24 : reel_of R24 1 (member (codes "drop") (boolean true) (reel (integer (pos 7)) (string (codes "A001")))) ≡ Err (fault OutOfRange (place 1 13))
drop_at_24 = refl

drop_at_30 : mode_at 1 R30 (boolean true) ≡ Ok Drop
drop_at_30 = refl

label_at_30 : label_number R30 Drop (codes "00:10:00;00") ≡ Some 17982
label_at_30 = refl

-- an unknown key of the first reel comes after the faults of all reels' known keys
known_first : project_of (small (member (codes "reel") (array (item (table (member (codes "extra") (integer (pos 1)) (reel (string (codes "01:00:00:00")) (string (codes "A001"))))) (item (table no_members) no_items))) no_members))
    ≡ Err (fault MissingKey (place 2 10))
known_first = refl

unknown_in_reel : project_of (small (member (codes "reel") (array (item (table (member (codes "extra") (integer (pos 1)) (reel (string (codes "01:00:00:00")) (string (codes "A001"))))) no_items)) no_members))
    ≡ Err (fault UnknownKey (place 1 0))
unknown_in_reel = refl
