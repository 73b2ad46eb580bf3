-- A listing reads back, by the grammar of lines (RFC 9271: LIST).
use Rattle.std.specs.Prelude.{◌≡◌, ℕ, List, [], ◌∷◌, Option, Some, Ok, codes, map, filter}
use Rattle.std.specs.Prelude.{All, IsTrue}
use Rattle.nutwords.specs.Reading.{is_address}
use Rattle.nutdriver.specs.Variable.{VariableState}
use Rattle.nutdriver.specs.Tree.{variable_at}
use Rattle.nutlisting.specs.Items.{is_rw, command_item, client_item}
use Rattle.nutlisting.specs.ReadsBack.{ReadsBack, variable_words, enum_words, range_words}
use Rattle.nutlisting.specs.ReadsBack.{ups_words}
use Rattle.nutcommand.specs.declared.command.Command.TheVariants.{ListUps, ListVar, ListRw, ListCmd}
use Rattle.nutcommand.specs.declared.command.Command.TheVariants.{ListEnum, ListRange, ListClient}
use Rattle.nutanswer.specs.Checks.{KnownUps, ups_named}
use Rattle.nutcommand.specs.Command.{read_command}
use Rattle.nutcore.specs.ByRight.{logged_in}
use Rattle.nutcore.specs.Listed.{AsksOf}
use Rattle.nutcore.specs.Reply.{seen, reply}
use Rattle.nutcore.specs.Server.{ServerState}
use Rattle.nutcore.specs.Session.{SessionState}
use Rattle.nutcore.specs.Sound.{IsSound}

-- The address of the client is lawful, as each `Address` is.
abbrev pub HasLawfulAddress : SessionState → Type 0
HasLawfulAddress x = IsTrue (is_address x.address)

-- Of a sound server, what is answered to a line that asks for a listing, and isn't refused, is read
-- back as the listing's items.
pub record EachListingReadsBack : Type 0 where
  pub variables : (s : ServerState) (c : ℕ) (line : List ℕ) (ups : Option (List ℕ))
      (known : KnownUps) → IsSound s → read_command line ≡ Ok (Some (ListVar ups))
      → AsksOf s ups known
      → ReadsBack (reply s c line) (codes "VAR" ∷ known.name ∷ [])
      (map (variable_words
      (codes "VAR") known.name known.state.fsd) known.state.report.tree.variables)
  pub rw : (s : ServerState) (c : ℕ) (line : List ℕ) (ups : Option (List ℕ)) (known : KnownUps)
      → IsSound s → read_command line ≡ Ok (Some (ListRw ups)) → AsksOf s ups known
      → ReadsBack (reply s c line) (codes "RW" ∷ known.name ∷ [])
      (map (variable_words (codes "RW") known.name known.state.fsd)
      (filter is_rw known.state.report.tree.variables))
  pub commands : (s : ServerState) (c : ℕ) (line : List ℕ) (ups : Option (List ℕ))
      (known : KnownUps) → IsSound s → read_command line ≡ Ok (Some (ListCmd ups))
      → AsksOf s ups known
      → ReadsBack (reply s c line) (codes "CMD" ∷ known.name ∷ [])
      (map (command_item known.name) known.state.report.tree.commands)
  pub enum_values : (s : ServerState) (c : ℕ) (line : List ℕ) (ups : Option (List ℕ))
      (name : List ℕ) (known : KnownUps) (variable : VariableState) → IsSound s
      → read_command line ≡ Ok (Some (ListEnum ups (Some name))) → AsksOf s ups known
      → variable_at known.state.report.tree name ≡ Some variable
      → ReadsBack (reply s c line) (codes "ENUM" ∷ known.name ∷ name ∷ [])
      (map (enum_words known.name name) variable.enum_values)
  pub ranges : (s : ServerState) (c : ℕ) (line : List ℕ) (ups : Option (List ℕ)) (name : List ℕ)
      (known : KnownUps) (variable : VariableState) → IsSound s
      → read_command line ≡ Ok (Some (ListRange ups (Some name))) → AsksOf s ups known
      → variable_at known.state.report.tree name ≡ Some variable
      → ReadsBack (reply s c line) (codes "RANGE" ∷ known.name ∷ name ∷ [])
      (map (range_words known.name name) variable.ranges)
  pub upses : (s : ServerState) (c : ℕ) (line : List ℕ) → IsSound s
      → read_command line ≡ Ok (Some ListUps)
      → ReadsBack (reply s c line) (codes "UPS" ∷ []) (map ups_words s.list)
  -- Where the addresses of the clients are lawful: those that are logged in to the UPS, usable or
  -- not.
  pub clients : (s : ServerState) (c : ℕ) (line : List ℕ) (ups : Option (List ℕ)) (known : KnownUps)
      → IsSound s → read_command line ≡ Ok (Some (ListClient ups))
      → ups_named (seen s) ups ≡ Some known → All HasLawfulAddress s.sessions
      → ReadsBack (reply s c line) (codes "CLIENT" ∷ known.name ∷ [])
      (map (λ x. client_item known.name x.address) (logged_in known.id s))
