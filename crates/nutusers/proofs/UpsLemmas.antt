-- The UPSs that the lines mean, a line at a time.
use Rattle.std.proofs.Common.{◌≡◌, ◌∙◌, ℕ, List, ◌∷◌, Some, map, get_or, ap, sym, refl}
use Rattle.std.specs.List.{IsDistinct}
use Rattle.std.specs.Str.{bytes_eq}
use Rattle.std.proofs.lemmas.List.Quantifiers.{position-Some}
use Rattle.std.proofs.lemmas.Slice.Eq.{bytes_eq-Decides}
use Rattle.nutusers.specs.ConfigLine.{read_config_line}
use Rattle.nutwords.specs.Reading.{is_ups_name}
use Rattle.nutusers.specs.File.{AreAccepted}
use Rattle.nutusers.specs.UpsFile.{ups_of, upses_of, ups_line_fault, ups_format}
use Rattle.nutusers.specs.UpsList.{Ups, new_ups, place_of}
use Rattle.nutusers.proofs.NamesApart.{HasNames, not_there, same_name, accepted_apart}
use Rattle.nutusers.specs.UpsStep.{with_ups_line, upses_with}
use Rattle.nutusers.proofs.SectionLemmas.{MeansByLines, sections-line}

ups_by_lines : MeansByLines ups_of new_ups with_ups_line
ups_by_lines = record { begins = λ name. refl; goes_on = λ name line lines. refl }

-- the UPSs of the lines read, and of one more
pub upses_of-line : (line : List ℕ) (lines : List (List ℕ)) → upses_of (line ∷ lines) ≡
    upses_with (upses_of lines) (read_config_line line)
upses_of-line line lines = sections-line ups_by_lines (read_config_line line) (map read_config_line lines)

ups_names : HasNames (λ (ups : Ups). ups.name) ups_of ups_line_fault
ups_names = record { named = λ name lines. refl; is_new = λ all name fine. not_there (is_ups_name name) _ _ fine }

-- no two UPSs of accepted lines have one name
pub upses_apart : (lines : List (List ℕ)) → AreAccepted ups_format lines →
    IsDistinct (same_name (λ (ups : Ups). ups.name)) (upses_of lines)
upses_apart lines fine = accepted_apart ups_names lines fine

-- the UPS at the place of a name has this name
pub named_at : (list : List Ups) (name : List ℕ) (place : ℕ) (ups : Ups) → Some place ≡
    place_of name list → ups ≡ get_or list place ups → ups.name ≡ name
named_at list name place ups found at =
    let there = position-Some (λ (u : Ups). bytes_eq u.name name) list place ups (sym found) in
    ap (λ (u : Ups). u.name) at ∙ (bytes_eq-Decides (get_or list place ups).name name).0 there.1
