-- What a client prints of the server's answer.
use Rattle.std.specs.Prelude.{◌≡◌, ◌≤◌, ℕ, Bool, List, [], ◌∷◌, ◌++◌, Some, codes, filter}
use Rattle.std.specs.Prelude.{length, All, IsTrue}
use Rattle.std.specs.Fmt.{decimal}
use Rattle.std.specs.List.{flat_map}
use Rattle.nutwords.specs.Reading.{is_name, is_ups_name}
use Rattle.nutwords.specs.SplitLine.{with_lf}
use Rattle.nutdriver.specs.Variable.{VariableState}
use Rattle.nutusers.specs.UpsList.{Ups, IsList}
use Rattle.nutlisting.specs.Items.{is_rw}
use Rattle.nutlisting.specs.Shown.{shown, ups_description}
use Rattle.nutusers.specs.declared.limits.TheConstants.{SESSION_LIMIT}
use Rattle.nutanswer.specs.Checks.{KnownUps, ups_named}
use Rattle.nutcore.specs.ByRight.{logged_in}
use Rattle.nutcore.specs.ReadsBack.{HasLawfulAddress}
use Rattle.nutcore.specs.Reply.{seen, reply}
use Rattle.nutcore.specs.Server.{ServerState}
use Rattle.nutrequest.specs.declared.request.Query.TheVariants as queries
use Rattle.nutrequest.specs.declared.request.Request.TheVariants.{List as ListOf, GetVar}
use Rattle.nutrequest.specs.declared.request.Request.TheVariants.{GetNumAttach}
use Rattle.nutclient.specs.Printed.{Prints, printed}
use Rattle.nutclient.specs.declared.form.Form.TheVariants as forms
use Rattle.endtoend.specs.Served.{IsLineOf, IsUsable, HasVariable}

-- A variable's line, `name: value`, with the value as clients see it.
abbrev pub variable_line : Bool → List ℕ × VariableState → List ℕ
variable_line fsd entry = with_lf (entry.0 ++ codes ": " ++ shown fsd entry.0 entry.1)

-- A line for each variable that the UPS holds, in the order of the names.
abbrev pub variable_lines : KnownUps → List ℕ
variable_lines known = flat_map (variable_line known.state.fsd) known.state.report.tree.variables

-- `upsc ups`: whatever comes after the server's answer, what is printed is a line for each variable
-- that the UPS holds.
abbrev pub UpscPrintsTheVariables : Type 0
UpscPrintsTheVariables =
    (s : ServerState) (client : ℕ) (ups line : List ℕ) (known : KnownUps) (more : List ℕ)
    → IsTrue (is_ups_name ups) → IsUsable s ups known → IsLineOf (ListOf (queries.Var ups)) line
    → printed (ListOf (queries.Var ups) ∷ []) forms.Colon (reply s client line ++ more)
    ≡ Prints (variable_lines known)

-- `upsc ups variable`: the variable's value, as clients see it.
abbrev pub UpscPrintsTheVariable : Type 0
UpscPrintsTheVariable =
    (s : ServerState) (client : ℕ) (ups name line : List ℕ) (known : KnownUps)
    (variable : VariableState) (more : List ℕ)
    → IsTrue (is_ups_name ups) → IsTrue (is_name name) → IsUsable s ups known
    → HasVariable known name variable → IsLineOf (GetVar ups name) line
    → printed (GetVar ups name ∷ []) forms.Value (reply s client line ++ more)
    ≡ Prints (with_lf (shown known.state.fsd name variable))

-- How many sessions are logged in to the UPS.
abbrev pub number_line : ServerState → KnownUps → List ℕ
number_line s known = with_lf (decimal (length (logged_in known.id s)))

-- `upsc --attached ups`, of a server with no more than the 64 sessions that one takes.
abbrev pub UpscPrintsHowManyAreLoggedIn : Type 0
UpscPrintsHowManyAreLoggedIn =
    (s : ServerState) (client : ℕ) (ups line : List ℕ) (known : KnownUps) (more : List ℕ)
    → length s.sessions ≤ SESSION_LIMIT → IsTrue (is_ups_name ups)
    → ups_named (seen s) (Some ups) ≡ Some known → IsLineOf (GetNumAttach ups) line
    → printed (GetNumAttach ups ∷ []) forms.Value (reply s client line ++ more)
    ≡ Prints (number_line s known)

-- The address of each session that is logged in to the UPS, in the order of opening.
abbrev pub address_lines : ServerState → KnownUps → List ℕ
address_lines s known = flat_map (λ x. with_lf x.address) (logged_in known.id s)

-- `upsc -c ups`, of such a server, whose sessions have lawful addresses.
abbrev pub UpscPrintsWhoIsLoggedIn : Type 0
UpscPrintsWhoIsLoggedIn =
    (s : ServerState) (client : ℕ) (ups line : List ℕ) (known : KnownUps) (more : List ℕ)
    → length s.sessions ≤ SESSION_LIMIT → All HasLawfulAddress s.sessions
    → IsTrue (is_ups_name ups) → ups_named (seen s) (Some ups) ≡ Some known
    → IsLineOf (ListOf (queries.Client ups)) line
    → printed (ListOf (queries.Client ups) ∷ []) forms.Name (reply s client line ++ more)
    ≡ Prints (address_lines s known)

-- A line `name=value`.
abbrev pub setting_line : Bool → List ℕ × VariableState → List ℕ
setting_line fsd entry = with_lf (entry.0 ++ codes "=" ++ shown fsd entry.0 entry.1)

-- Such a line for each variable that may be set, in the order of the names.
abbrev pub setting_lines : KnownUps → List ℕ
setting_lines known =
    flat_map (setting_line known.state.fsd) (filter is_rw known.state.report.tree.variables)

-- `upsrw ups`
abbrev pub UpsrwPrintsTheVariables : Type 0
UpsrwPrintsTheVariables =
    (s : ServerState) (client : ℕ) (ups line : List ℕ) (known : KnownUps) (more : List ℕ)
    → IsTrue (is_ups_name ups) → IsUsable s ups known → IsLineOf (ListOf (queries.Rw ups)) line
    → printed (ListOf (queries.Rw ups) ∷ []) forms.Equals (reply s client line ++ more)
    ≡ Prints (setting_lines known)

-- The name of each command of the UPS, in the order of the names.
abbrev pub command_lines : KnownUps → List ℕ
command_lines known = flat_map with_lf known.state.report.tree.commands

-- `upscmd -l ups`
abbrev pub UpscmdPrintsTheCommands : Type 0
UpscmdPrintsTheCommands =
    (s : ServerState) (client : ℕ) (ups line : List ℕ) (known : KnownUps) (more : List ℕ)
    → IsTrue (is_ups_name ups) → IsUsable s ups known → IsLineOf (ListOf (queries.Cmd ups)) line
    → printed (ListOf (queries.Cmd ups) ∷ []) forms.Name (reply s client line ++ more)
    ≡ Prints (command_lines known)

-- `upsc -l`: a line for each UPS of the server's list, its name.
abbrev pub name_lines : List Ups → List ℕ
name_lines list = flat_map (λ ups. with_lf ups.name) list

-- `upsc -L`: its name and its description.
abbrev pub description_line : Ups → List ℕ
description_line ups = with_lf (ups.name ++ codes ": " ++ ups_description ups)

abbrev pub description_lines : List Ups → List ℕ
description_lines list = flat_map description_line list

pub record PrintsTheUpses (s : ServerState) (client : ℕ) (line more : List ℕ) : Type 0 where
  pub names : printed (ListOf queries.Ups ∷ []) forms.Name (reply s client line ++ more)
      ≡ Prints (name_lines s.list)
  pub descriptions : printed (ListOf queries.Ups ∷ []) forms.Colon (reply s client line ++ more)
      ≡ Prints (description_lines s.list)

abbrev pub UpscPrintsTheUpses : Type 0
UpscPrintsTheUpses =
    (s : ServerState) (client : ℕ) (line more : List ℕ) → IsList s.list
    → IsLineOf (ListOf queries.Ups) line → PrintsTheUpses s client line more
