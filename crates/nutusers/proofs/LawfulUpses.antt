-- The UPSs that accepted lines mean are lawful.
use Rattle.std.proofs.Common.{◌≡◌, ℕ, zero, suc, ◌-◌, Bool, true, false, not, cond}
use Rattle.std.proofs.Common.{List, [], ◌∷◌, Option, None, Some, is_some, All, IfSome, IsTrue}
use Rattle.std.proofs.Common.{codes, slice_get, reverse, length, refl, sym, subst}
use Rattle.std.specs.Option.{option_or}
use Rattle.std.specs.Str.{bytes_eq}
use Rattle.std.proofs.lemmas.List.Elements.{All-nil, All-cons, All-append, All-head, All-tail, All-set}
use Rattle.std.proofs.lemmas.List.Sorted.{All-permutation}
use Rattle.nutwords.specs.Reading.{is_ups_name}
use Rattle.nutusers.specs.ConfigLine.{ConfigLine, silent, malformed, section, setting, upsmon, read_config_line}
use Rattle.nutusers.specs.File.{AreAccepted, once_fault}
use Rattle.nutusers.specs.Sections.{last_of, in_section}
use Rattle.nutusers.specs.SectionsStep.{with_last}
use Rattle.nutusers.specs.Texts.{is_description}
use Rattle.nutusers.specs.UpsFile.{upses_of, ups_format, ups_line_fault, ups_setting_fault, EachUpsThatIsReadIsLawful}
use Rattle.nutusers.specs.UpsList.{Ups, new_ups, IsLawfulUps}
use Rattle.nutusers.specs.UpsStep.{with_ups_line, upses_with}
use Rattle.nutusers.specs.declared.fault.Cause.{Cause}
use Rattle.nutusers.specs.declared.fault.Cause.TheVariants.{BadName, Duplicate, BadValue}
use Rattle.nutusers.proofs.UpsLemmas.{upses_of-line}

-- what stands at a place, where it holds of all, and with another in its place
at_place : {X : Type 0} (P : X → Type 0) (xs : List X) (i : ℕ) (x : X) → slice_get xs i ≡
    Some x → All P xs → P x
at_place P [] i x e all = cc e
at_place P (y ∷ xs) zero x e all = let same : y ≡ x = cc e in subst P same (All-head P y xs all)
at_place P (y ∷ xs) (suc i) x e all = at_place P xs i x e (All-tail P y xs all)

-- a section begins with a lawful name
name_lawful : (lawful : Bool) (rest : Option Cause) → cond (not lawful) (Some BadName) rest ≡ None → IsTrue lawful
name_lawful true rest fine = refl
name_lawful false rest fine = cc fine

-- a description is accepted where it is one
desc_lawful : (there lawful : Bool) →
    cond there (Some Duplicate) (cond lawful None (Some BadValue)) ≡ None → IsTrue lawful
desc_lawful true lawful fine = cc fine
desc_lawful false true fine = refl
desc_lawful false false fine = cc fine

setting_lawful : (key value : List ℕ) (ups : Ups) → ups_setting_fault key value ups ≡ None →
    IsLawfulUps ups → IsLawfulUps (with_ups_line (setting key value) ups)
setting_lawful key value ups fine h =
    record { name = h.name; description = by_key (bytes_eq key (codes "desc")) _ fine }
  where
    by_key : (b : Bool) (other : Option Cause) →
        cond b (once_fault (is_some ups.desc) (is_description value)) other ≡ None →
        IfSome (option_or (cond b (Some value) None) ups.desc) (λ text. IsTrue (is_description text))
    by_key true other e = desc_lawful (is_some ups.desc) (is_description value) e
    by_key false other e = h.description

-- a line that is accepted
line_lawful : (line : ConfigLine) (all : List Ups) → ups_line_fault all line ≡ None →
    All IsLawfulUps all → All IsLawfulUps (upses_with all line)
line_lawful silent all fine h = h
line_lawful malformed all fine h = h
line_lawful (section name) all fine h =
    let own : IsLawfulUps (new_ups name) = record { name = name_lawful (is_ups_name name) _ fine; description = tt } in
    All-append IsLawfulUps all (new_ups name ∷ []) h
    (All-cons IsLawfulUps (new_ups name) [] own (All-nil IsLawfulUps))
line_lawful (setting key value) all fine h = by_last (last_of all) refl fine
  where
    by_last : (o : Option Ups) → last_of all ≡ o →
        in_section (ups_setting_fault key value) o ≡ None →
        All IsLawfulUps (with_last new_ups with_ups_line (setting key value) all o)
    by_last None e k = h
    by_last (Some last) e k = All-set IsLawfulUps all (length all - 1)
        (with_ups_line (setting key value) last)
        (setting_lawful key value last k (at_place IsLawfulUps all (length all - 1) last e h)) h
line_lawful (upsmon role) all fine h = cc fine

lines_lawful : (lines : List (List ℕ)) → AreAccepted ups_format lines → All IsLawfulUps (upses_of lines)
lines_lawful [] fine = All-nil IsLawfulUps
lines_lawful (line ∷ lines) fine =
    subst (All IsLawfulUps) (sym (upses_of-line line lines))
    (line_lawful (read_config_line line) (upses_of lines) fine.0 (lines_lawful lines fine.1))

pub each_ups_lawful : EachUpsThatIsReadIsLawful
each_ups_lawful lines list h = All-permutation IsLawfulUps (upses_of (reverse lines)) list h.same
    (lines_lawful (reverse lines) h.accepted)
