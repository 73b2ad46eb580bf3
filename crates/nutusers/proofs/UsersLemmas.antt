-- The users that the lines mean, a line at a time.
use Rattle.std.proofs.Common.{◌≡◌, ℕ, true, false, List, [], ◌∷◌, ◌++◌, ◌∙◌}
use Rattle.std.proofs.Common.{map, reverse, Option, None, Some, cond, codes, refl, sym, ap}
use Rattle.std.specs.List.{find, filter_map, cons_option, IsDistinct}
use Rattle.std.specs.Prelude.{option_map}
use Rattle.std.specs.Str.{bytes_eq}
use Rattle.std.proofs.lemmas.List.{map-append}
use Rattle.nutusers.specs.ConfigLine.{ConfigLine, read_config_line}
use Rattle.nutusers.specs.Rights.{grant_of}
use Rattle.nutusers.specs.Sections.{value_in, sections}
use Rattle.nutusers.specs.File.{AreAccepted}
use Rattle.nutusers.specs.Credentials.{is_user_name}
use Rattle.nutusers.specs.UsersFile.{user_of, users_of, section_of, user_line_fault, users_format}
use Rattle.nutusers.specs.UsersFile.{AreUsers, RightsComeOfTheOwnSection}
use Rattle.nutusers.specs.Users.{User, user_named}
use Rattle.nutusers.proofs.NamesApart.{HasNames, not_there, same_name, accepted_apart, found_alike}
use Rattle.nutusers.specs.UsersStep.{new_user, with_user_line, with_grant, users_with}
use Rattle.nutusers.specs.declared.rights.Grant.{Grant}
use Rattle.nutusers.proofs.Progress.{reverse-cons}
use Rattle.nutusers.proofs.SectionLemmas.{MeansByLines, sections-line}

-- a user with a line more
user_of-line : (name : List ℕ) (line : ConfigLine) (lines : List ConfigLine) →
    user_of (name, line ∷ lines) ≡ with_user_line line (user_of (name, lines))
user_of-line name line lines = ap
    (λ (grants : List Grant). record
    { name = name; password = value_in (codes "password") (line ∷ lines); grants = grants })
    (grants_of (grant_of line) (filter_map grant_of lines))
  where
    grants_of : (o : Option Grant) (grants : List Grant) → reverse (cons_option o grants) ≡
        with_grant o (reverse grants)
    grants_of None grants = refl
    grants_of (Some grant) grants = reverse-cons grant grants

user_by_lines : MeansByLines user_of new_user with_user_line
user_by_lines = record { begins = λ name. refl; goes_on = user_of-line }

-- the users of the lines read, and of one more
pub users_of-line : (line : List ℕ) (lines : List (List ℕ)) → users_of (line ∷ lines) ≡
    users_with (users_of lines) (read_config_line line)
users_of-line line lines = sections-line user_by_lines (read_config_line line) (map read_config_line lines)

users_names : HasNames (λ (user : User). user.name) user_of user_line_fault
users_names = record { named = λ name lines. refl; is_new = λ all name fine. not_there (is_user_name name) _ _ fine }

-- no two users of accepted lines have one name
pub users_apart : (lines : List (List ℕ)) → AreAccepted users_format lines →
    IsDistinct (same_name (λ (user : User). user.name)) (users_of lines)
users_apart lines fine = accepted_apart users_names lines fine

-- a user is what the section of this name means
map-reverse : {A B : Type 0} (f : A → B) (xs : List A) → map f (reverse xs) ≡ reverse (map f xs)
map-reverse f [] = refl
map-reverse f (x ∷ xs) = ap (map f) (reverse-cons x xs) ∙
    map-append f (reverse xs) (x ∷ []) ∙
    ap (λ front. front ++ f x ∷ []) (map-reverse f xs) ∙ sym (reverse-cons (f x) (map f xs))

named_in : (name : List ℕ) (ss : List (List ℕ × List ConfigLine)) →
    user_named name (map user_of ss) ≡ option_map user_of (find (λ s. bytes_eq s.0 name) ss)
named_in name [] = refl
named_in name (s ∷ ss) = elim (bytes_eq s.0 name) as
    (λ b. cond b (Some (user_of s)) (user_named name (map user_of ss)) ≡
    option_map user_of (cond b (Some s) (find (λ t. bytes_eq t.0 name) ss)))
    [ true ↦ refl | false ↦ named_in name ss ]

user_is : (name : List ℕ) (lines : List (List ℕ)) → user_named name (users_of lines) ≡
    option_map user_of (section_of name lines)
user_is name lines = let ss = sections (map read_config_line lines) in
    ap (user_named name) (sym (map-reverse user_of ss)) ∙ named_in name (reverse ss)

-- and is found in the order of the names
named_by_name : (name : List ℕ) (lines : List (List ℕ)) (users : List User) → AreUsers lines users →
    user_named name users ≡ option_map user_of (section_of name (reverse lines))
named_by_name name lines users are =
    found_alike (λ (user : User). user.name) name (users_of (reverse lines)) users
    (users_apart (reverse lines) are.accepted) are.same ∙ user_is name (reverse lines)

pub rights_of_section : RightsComeOfTheOwnSection
rights_of_section lines other users others name password right are are_others same =
    rw (named_by_name name lines users are, named_by_name name other others are_others, same) refl
