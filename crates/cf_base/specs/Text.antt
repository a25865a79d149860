-- Texts of printable ASCII.
-- * path, title, name: 1 to 255 bytes from 20 to 7E hexadecimal; 0 to 199 of them; 1 to 64 bytes from 21 to 7E
--     is_path_text, is_title_text, is_name      which bytes are a path, a title, the name of a reel
--     path_text_of, title_text_of, name_of      the bytes, where they are one
--     IsPathText, IsTitleText, IsName      that they are one
use Rattle.std.specs.Prelude.{◌&&◌, if◌then◌else◌, ℕ, List, length, nat_le, Bool, IsTrue, Option, Some, None}
use Rattle.std.specs.List.{list_all}

-- a byte from 20 to 7E hexadecimal
abbrev pub is_printable : ℕ → Bool
is_printable byte = nat_le 0x20 byte && nat_le byte 0x7E

-- a byte from 21 to 7E hexadecimal: printable and no blank
abbrev pub is_name_byte : ℕ → Bool
is_name_byte byte = nat_le 0x21 byte && nat_le byte 0x7E

abbrev pub is_within : ℕ → ℕ → ℕ → Bool
is_within low high n = nat_le low n && nat_le n high

-- 1 to 255 printable bytes
abbrev pub is_path_text : List ℕ → Bool
is_path_text bytes = is_within 1 255 (length bytes) && list_all is_printable bytes

-- up to 199 printable bytes
abbrev pub is_title_text : List ℕ → Bool
is_title_text bytes = is_within 0 199 (length bytes) && list_all is_printable bytes

-- 1 to 64 bytes that are printable and no blanks
abbrev pub is_name : List ℕ → Bool
is_name bytes = is_within 1 64 (length bytes) && list_all is_name_byte bytes

-- the bytes, where they pass
abbrev pub kept_if : (List ℕ → Bool) → List ℕ → Option (List ℕ)
kept_if test bytes = if test bytes then Some bytes else None

abbrev pub path_text_of : List ℕ → Option (List ℕ)
path_text_of = kept_if is_path_text

abbrev pub title_text_of : List ℕ → Option (List ℕ)
title_text_of = kept_if is_title_text

abbrev pub name_of : List ℕ → Option (List ℕ)
name_of = kept_if is_name

abbrev pub IsPathText : List ℕ → Type 0
IsPathText bytes = IsTrue (is_path_text bytes)

abbrev pub IsTitleText : List ℕ → Type 0
IsTitleText bytes = IsTrue (is_title_text bytes)

abbrev pub IsName : List ℕ → Type 0
IsName bytes = IsTrue (is_name bytes)
