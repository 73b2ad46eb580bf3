-- A listing has each item once, in order (RFC 9271: LIST).
use Rattle.std.specs.Prelude.{◌≡◌, ◌↔◌, ℕ, true, List, [], ◌∷◌, Option, Some, None, Ok, codes, map}
use Rattle.std.specs.List.{Contains, filter}
use Rattle.std.specs.List.Sorted.{IsStrictlySortedBy}
use Rattle.nutwords.specs.Frame.{frame, line_of}
use Rattle.nutusers.specs.UpsList.{AreByName}
use Rattle.nutdriver.specs.Variable.{VariableState}
use Rattle.nutdriver.specs.Tree.{TreeState, byte_order, variable_at, has_command}
use Rattle.nutmap.specs.Entries.{HasRisingKeys}
use Rattle.nutdriver.specs.Sound.{IsSoundTree, HasNoRepeats}
use Rattle.nutlisting.specs.Items.{ups_item, variable_item, is_rw, command_item, enum_item}
use Rattle.nutlisting.specs.Items.{range_item}
use Rattle.nutcommand.specs.declared.command.Command.TheVariants.{GetVar, ListUps, ListVar, ListRw}
use Rattle.nutcommand.specs.declared.command.Command.TheVariants.{ListCmd, ListEnum, ListRange}
use Rattle.nutcommand.specs.declared.err_word.ErrWord.TheVariants.{VarNotSupported}
use Rattle.nutcommand.specs.ErrWord.{error_line}
use Rattle.nutcommand.specs.Command.{read_command}
use Rattle.nutanswer.specs.View.{readiness, usable}
use Rattle.nutanswer.specs.Checks.{KnownUps, ups_named}
use Rattle.nutcore.specs.Server.{ServerState}
use Rattle.nutcore.specs.Reply.{seen, reply}
use Rattle.nutcore.specs.Sound.{IsSound}

-- The line asks this of a UPS that is known, and usable.
pub record AsksOf (s : ServerState) (ups : Option (List ℕ)) (known : KnownUps) : Type 0 where
  pub named : ups_named (seen s) ups ≡ Some known
  pub ready : readiness s.moment s.max_age known.state.report ≡ usable

-- The listing is the frame of these items, whose names strictly rise where the tree is sound: so
-- each comes once, in the order of names.
pub record EachIsListedOnce : Type 0 where
  pub variables : (s : ServerState) (c : ℕ) (line : List ℕ) (ups : Option (List ℕ))
      (known : KnownUps) → read_command line ≡ Ok (Some (ListVar ups)) → AsksOf s ups known
      → (reply s c line
      ≡ frame (codes "VAR") (known.name ∷ [])
      (map (variable_item
      (codes "VAR") known.name known.state.fsd) known.state.report.tree.variables))
      × (IsSoundTree known.state.report.tree
      → HasRisingKeys byte_order known.state.report.tree.variables)
  pub commands : (s : ServerState) (c : ℕ) (line : List ℕ) (ups : Option (List ℕ))
      (known : KnownUps) → read_command line ≡ Ok (Some (ListCmd ups)) → AsksOf s ups known
      → (reply s c line
      ≡ frame (codes "CMD") (known.name ∷ [])
      (map (command_item known.name) known.state.report.tree.commands))
      × (IsSoundTree known.state.report.tree
      → IsStrictlySortedBy byte_order known.state.report.tree.commands)
  pub rw : (s : ServerState) (c : ℕ) (line : List ℕ) (ups : Option (List ℕ)) (known : KnownUps)
      → read_command line ≡ Ok (Some (ListRw ups)) → AsksOf s ups known
      → (reply s c line
      ≡ frame (codes "RW") (known.name ∷ [])
      (map (variable_item (codes "RW") known.name known.state.fsd)
      (filter is_rw known.state.report.tree.variables)))
      × (IsSoundTree known.state.report.tree
      → HasRisingKeys byte_order (filter is_rw known.state.report.tree.variables))
  -- Enum values and ranges are in the order of the tree's lists, each once.
  pub enum_values : (s : ServerState) (c : ℕ) (line : List ℕ) (ups : Option (List ℕ))
      (name : List ℕ) (known : KnownUps) (variable : VariableState)
      → read_command line ≡ Ok (Some (ListEnum ups (Some name))) → AsksOf s ups known
      → variable_at known.state.report.tree name ≡ Some variable
      → (reply s c line
      ≡ frame (codes "ENUM") (known.name ∷ name ∷ [])
      (map (enum_item known.name name) variable.enum_values))
      × (IsSoundTree known.state.report.tree → HasNoRepeats variable.enum_values)
  pub ranges : (s : ServerState) (c : ℕ) (line : List ℕ) (ups : Option (List ℕ)) (name : List ℕ)
      (known : KnownUps) (variable : VariableState)
      → read_command line ≡ Ok (Some (ListRange ups (Some name))) → AsksOf s ups known
      → variable_at known.state.report.tree name ≡ Some variable
      → (reply s c line
      ≡ frame (codes "RANGE") (known.name ∷ name ∷ [])
      (map (range_item known.name name) variable.ranges))
      × (IsSoundTree known.state.report.tree → HasNoRepeats variable.ranges)
  -- UPSs are in the order of the list, which is that of their names.
  pub upses : (s : ServerState) (c : ℕ) (line : List ℕ) → read_command line ≡ Ok (Some ListUps)
      → (reply s c line ≡ frame (codes "UPS") [] (map ups_item s.list))
      × (IsSound s → AreByName s.list)
  -- Whatever an answer says of a UPS is in a sound tree.
  pub tree : (s : ServerState) (ups : Option (List ℕ)) (known : KnownUps) → IsSound s
      → ups_named (seen s) ups ≡ Some known → IsSoundTree known.state.report.tree

-- An item is there exactly where the server holds it, with what GET answers for it.
pub record WhatIsListedIsWhatIsHeld : Type 0 where
  pub variables : (tree : TreeState) (name : List ℕ) (variable : VariableState) → IsSoundTree tree
      → Contains tree.variables (name, variable) ↔ (variable_at tree name ≡ Some variable)
  pub rw : (tree : TreeState) (name : List ℕ) (variable : VariableState) → IsSoundTree tree
      → Contains (filter is_rw tree.variables) (name, variable)
      ↔ ((variable_at tree name ≡ Some variable) × (variable.flags.rw ≡ true))
  pub commands : (tree : TreeState) (name : List ℕ) → IsSoundTree tree
      → Contains tree.commands name ↔ (has_command tree name ≡ true)
  -- `GET VAR` is answered by the line of the item that LIST VAR has, where it has one, and refused
  -- where it has none.
  pub got : (s : ServerState) (c : ℕ) (line : List ℕ) (ups : Option (List ℕ)) (name : List ℕ)
      (known : KnownUps) (variable : VariableState)
      → read_command line ≡ Ok (Some (GetVar ups (Some name))) → AsksOf s ups known
      → variable_at known.state.report.tree name ≡ Some variable
      → reply s c line
      ≡ line_of (variable_item (codes "VAR") known.name known.state.fsd (name, variable))
  pub refused : (s : ServerState) (c : ℕ) (line : List ℕ) (ups : Option (List ℕ)) (name : List ℕ)
      (known : KnownUps) → read_command line ≡ Ok (Some (GetVar ups (Some name)))
      → AsksOf s ups known
      → variable_at known.state.report.tree name ≡ None
      → reply s c line ≡ error_line VarNotSupported
