-- The words of a command line, as the parser takes them.
use Rattle.std.specs.Prelude.{◌≡◌, ℕ, List, [], ◌∷◌, Bool, true, false, Some, None, codes}
use Rattle.std.specs.Prelude.{Result, IfOk}
use Rattle.clap.specs.Simple.{new_shape}
use Rattle.clap.specs.Words.{App, FailsBy, HasMatchesOf, Rule, Text, fault_of, new_rule, with_rule}
use Rattle.clap.specs.Words.{found_of, one_text}
use Rattle.clap.specs.declared.builder.action.ArgAction.TheVariants.{Append, SetTrue}
use Rattle.clap.specs.declared.error.Error.{Error}
use Rattle.clap.specs.declared.parser.matches.ArgMatches.{ArgMatches}
use Rattle.nutargs.specs.declared.words.Form.{Form}
use Rattle.nutargs.specs.declared.words.Form.TheVariants as forms
use Rattle.nutargs.specs.declared.words.Need.{Need}
use Rattle.nutargs.specs.declared.words.Need.TheVariants.{Free, Required}
use Rattle.nutargs.specs.declared.words.Word.{Word}

-- `-c`, without a value.
abbrev pub short_flag : Text → ℕ → Rule
short_flag name letter = record (new_rule name) { short = Some letter; action = Some SetTrue }

-- `--name`, without a value.
abbrev pub long_flag : Text → Rule
long_flag name = record (new_rule name) { long = Some name; action = Some SetTrue }

-- `-c VALUE`.
abbrev pub short_option : Text → ℕ → Rule
short_option name letter = record (new_rule name) { short = Some letter; value_names = 1 }

-- `--name VALUE`.
abbrev pub long_option : Text → Rule
long_option name = record (new_rule name) { long = Some name; value_names = 1 }

-- `--name VALUE`, as often as wanted, with this value where it isn't there.
abbrev pub long_options : Text → Text → Rule
long_options name value =
    record (long_option name) { defaults = value ∷ []; action = Some Append }

-- A word without a dash.
abbrev pub operand : Text → Rule
operand name = record (new_rule name) { value_names = 1 }

-- A word that has to be there.
abbrev pub required : Rule → Rule
required rule = record rule { required = true }

-- The rule of a word of this name that is written so.
abbrev pub rule_by_form : Text → Form → Rule
rule_by_form name (forms.ShortFlag letter) = short_flag name letter
rule_by_form name forms.LongFlag = long_flag name
rule_by_form name (forms.ShortOption letter shown) = short_option name letter
rule_by_form name (forms.LongOption shown) = long_option name
rule_by_form name (forms.Presets shown value) = long_options name value.now
rule_by_form name (forms.Parsed shown parser) = record (long_option name) { parser = Some parser }
rule_by_form name (forms.Operand shown) = operand name

abbrev pub rule_by_need : Need → Rule → Rule
rule_by_need Free rule = rule
rule_by_need Required rule = required rule

abbrev pub rule_of_word : Word → Rule
rule_of_word word = rule_by_need word.need (rule_by_form word.name.now word.form)

-- The program, which takes words by these rules too.
abbrev pub with_words : App → List Rule → App
with_words app [] = app
with_words app (rule ∷ rules) = with_words (with_rule app rule) rules

-- The same, with `--explain` too.
abbrev pub explained : App → App
explained app = with_words app (long_flag (codes "explain") ∷ [])

-- A program of this name, which prints its version.
abbrev pub program_of : Text → App
program_of name = record { top = record (new_shape name) { has_version = true }; subs = [] }

-- The same with these words, and with `--explain`.
abbrev pub program_with : Text → List Rule → App
program_with name rules = explained (with_words (program_of name) rules)

-- What is found in the words is what the program takes of them; they are refused by what is wrong
-- with them, or for want of memory, and else taken.
pub record AreRead (app : App) (words : List Text) (result : Result ArgMatches Error) : Type 0 where
  pub matches : IfOk result (HasMatchesOf app words)
  pub fails : FailsBy (fault_of app words) result

-- Whether the flag was given.
abbrev pub IsFlag : ArgMatches → Text → Bool → Type 0
IsFlag found name given =
    (one_text (found_of found) name ≡ None → given ≡ false)
    × (one_text (found_of found) name ≡ Some (codes "true") → given ≡ true)
    × (one_text (found_of found) name ≡ Some (codes "false") → given ≡ false)
