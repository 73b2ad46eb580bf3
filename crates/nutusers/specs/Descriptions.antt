-- The descriptions of variables and commands.
use Rattle.std.specs.Prelude.{ℕ, List, [], Option, All, IsTrue}
use Rattle.std.specs.BTreeMap.{is_at}
use Rattle.std.specs.Map.{lookup, values_of}
use Rattle.nutwords.specs.NameOrder.{byte_order}
use Rattle.nutusers.specs.Texts.{is_description}

-- The texts of names: a finite map, as its entries in the order of the names.
abbrev pub Texts : Type 0
Texts = List (List ℕ × List ℕ)

-- The text of this name.
abbrev pub text_at : Texts → List ℕ → Option (List ℕ)
text_at texts name = lookup (is_at (byte_order name)) texts

-- The descriptions of variables and of commands.
pub record Descriptions : Type 0 where
  pub vars : Texts
  pub cmds : Texts

-- No descriptions.
abbrev pub no_descriptions : Descriptions
no_descriptions = record { vars = []; cmds = [] }

-- Each text is a description, as the file's format demands.
abbrev pub AreLawfulTexts : Texts → Type 0
AreLawfulTexts texts = All (λ text. IsTrue (is_description text)) (values_of texts)

pub record AreLawful (descriptions : Descriptions) : Type 0 where
  pub vars : AreLawfulTexts descriptions.vars
  pub cmds : AreLawfulTexts descriptions.cmds
