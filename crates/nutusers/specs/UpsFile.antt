-- The file of UPSs: names, descriptions and sockets (ups.conf(5)).
use Rattle.std.specs.Prelude.{ℕ, Bool, ◌&&◌, not, List, map, reverse, length, codes, nat_le}
use Rattle.std.specs.Prelude.{is_some, All, IsPermutation, Option, None, Some, if◌then◌else◌}
use Rattle.std.specs.Str.{bytes_eq, is_utf8}
use Rattle.nutwords.specs.Reading.{is_ups_name}
use Rattle.nutusers.specs.ConfigLine.{ConfigLine, silent, malformed, section, setting, upsmon}
use Rattle.nutusers.specs.ConfigLine.{is_section, read_config_line}
use Rattle.nutusers.specs.File.{Format, AreAccepted, bad_value_unless, once_fault}
use Rattle.nutusers.specs.Sections.{sections, value_in, last_of, in_section}
use Rattle.nutusers.specs.Texts.{is_text_within, is_description}
use Rattle.nutusers.specs.UpsList.{IsLawfulUps, AreByName, ups_named}
pub use Rattle.nutusers.specs.UpsList.{Ups, new_ups, place_of, id_at}
use Rattle.nutusers.specs.declared.limits.TheConstants.{UPS_LIMIT, SOCKET_LIMIT}
use Rattle.nutusers.specs.declared.fault.Cause.{Cause}
use Rattle.nutusers.specs.declared.fault.Cause.TheVariants as causes

-- The UPS of a section.
abbrev pub ups_of : List ℕ × List ConfigLine → Ups
ups_of (name, lines) =
    record {
      name = name;
      desc = value_in (codes "desc") lines;
      socket = value_in (codes "socket") lines;
    }

-- The UPSs that some lines mean, in the order of their sections. The lines are listed from the last
-- to the first.
abbrev pub upses_of : List (List ℕ) → List Ups
upses_of lines = reverse (map ups_of (sections (map read_config_line lines)))

-- The path of a socket: UTF-8, of a limited length.
abbrev pub is_socket : List ℕ → Bool
is_socket value = is_text_within SOCKET_LIMIT value && is_utf8 value

-- Why a section line is refused after lines that mean these UPSs.
abbrev pub ups_section_fault : List Ups → List ℕ → Option Cause
ups_section_fault upses name =
    if not (is_ups_name name) then Some causes.BadName
    else if is_some (ups_named name upses) then Some causes.Duplicate
    else bad_value_unless (not (nat_le UPS_LIMIT (length upses)))

-- Why `key = value` is refused in the section of this UPS.
abbrev pub ups_setting_fault : List ℕ → List ℕ → Ups → Option Cause
ups_setting_fault key value ups =
    if bytes_eq key (codes "desc") then once_fault (is_some ups.desc) (is_description value)
    else if bytes_eq key (codes "socket") then once_fault (is_some ups.socket) (is_socket value)
    else Some causes.UnknownKey

-- Why a line is refused after lines that mean these UPSs.
abbrev pub ups_line_fault : List Ups → ConfigLine → Option Cause
ups_line_fault upses silent = None
ups_line_fault upses malformed = Some causes.Malformed
ups_line_fault upses (section name) = ups_section_fault upses name
ups_line_fault upses (setting key value) = in_section (ups_setting_fault key value) (last_of upses)
ups_line_fault upses (upsmon role) = Some causes.Malformed

abbrev pub ups_format : Format
ups_format earlier line = ups_line_fault (upses_of earlier) (read_config_line line)

-- The lines that add a UPS. A description and a socket are kept in the UPS's own place.
abbrev pub adds_ups : List ℕ → Bool
adds_ups line = is_section (read_config_line line)

-- The file means this list: each of its lines is accepted, and the list has exactly its UPSs, by
-- name.
pub record IsUpsList (lines : List (List ℕ)) (list : List Ups) : Type 0 where
  pub accepted : AreAccepted ups_format (reverse lines)
  pub same : IsPermutation (upses_of (reverse lines)) list
  pub by_name : AreByName list

-- Each UPS of a list that a file means is lawful.
abbrev pub EachUpsThatIsReadIsLawful : Type 0
EachUpsThatIsReadIsLawful =
    (lines : List (List ℕ)) (list : List Ups) → IsUpsList lines list → All IsLawfulUps list
