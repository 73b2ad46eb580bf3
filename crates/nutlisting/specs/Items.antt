-- The listings (RFC 9271: LIST), each by the words of its items.
use Rattle.std.specs.Prelude.{ℕ, Bool, List, [], ◌∷◌, Option, Some, None, codes, map, filter, drop}
use Rattle.std.specs.Fmt.{signed_decimal}
use Rattle.std.specs.List.{concat}
use Rattle.nutwords.specs.Frame as frame
use Rattle.nutwords.specs.Frame.{frame, frame_lines}
use Rattle.nutwords.specs.Spelling.{quoted}
use Rattle.nutdriver.specs.declared.range.Range.{Range}
use Rattle.nutdriver.specs.Variable.{VariableState}
use Rattle.nutusers.specs.UpsList.{Ups}
use Rattle.nutlisting.specs.Shown.{shown, ups_description}
use Rattle.nutdriver.specs.Tree.{variable_at}
use Rattle.nutlisting.specs.declared.listing.Content.{Content}
use Rattle.nutlisting.specs.declared.listing.Content.TheVariants as contents

-- A listing: its kind, the names asked for, and the words of each item.
pub record ListingState : Type 0 where
  pub kind : List ℕ
  pub names : List (List ℕ)
  pub items : List (List (List ℕ))

-- Its text: BEGIN, a line an item, END.
abbrev pub text_of : ListingState → List ℕ
text_of l = frame l.kind l.names l.items

-- Its line BEGIN or END.
abbrev pub edge_line : List ℕ → ListingState → List ℕ
edge_line word l = frame.edge_line word l.kind l.names

-- Its lines. Joined they are its text.
abbrev pub lines_of : ListingState → List (List ℕ)
lines_of l = frame_lines l.kind l.names l.items

abbrev pub ups_item : Ups → List (List ℕ)
ups_item ups = codes "UPS" ∷ ups.name ∷ quoted (ups_description ups) ∷ []

-- LIST UPS: the UPSs.
abbrev pub ups_listing : List Ups → ListingState
ups_listing upses = record { kind = codes "UPS"; names = []; items = map ups_item upses }

-- The item of a variable: the word, the UPS, the variable's name and its value as clients see it.
abbrev pub variable_item : List ℕ → List ℕ → Bool → List ℕ × VariableState → List (List ℕ)
variable_item word ups fsd entry = word ∷ ups ∷ entry.0 ∷ quoted (shown fsd entry.0 entry.1) ∷ []

-- LIST VAR: the variables, in the order of their names.
abbrev pub variable_listing : List ℕ → Bool → List (List ℕ × VariableState) → ListingState
variable_listing ups fsd variables =
    record {
      kind = codes "VAR";
      names = ups ∷ [];
      items = map (variable_item (codes "VAR") ups fsd) variables;
    }

abbrev pub is_rw : List ℕ × VariableState → Bool
is_rw entry = entry.1.flags.rw

abbrev pub rw_items : List ℕ → Bool → List (List ℕ × VariableState) → List (List (List ℕ))
rw_items ups fsd variables = map (variable_item (codes "RW") ups fsd) (filter is_rw variables)

-- LIST RW: of the variables those with the flag RW.
abbrev pub rw_listing : List ℕ → Bool → List (List ℕ × VariableState) → ListingState
rw_listing ups fsd variables =
    record { kind = codes "RW"; names = ups ∷ []; items = rw_items ups fsd variables }

abbrev pub command_item : List ℕ → List ℕ → List (List ℕ)
command_item ups name = codes "CMD" ∷ ups ∷ name ∷ []

-- LIST CMD: the commands, in the order of their names.
abbrev pub command_listing : List ℕ → List (List ℕ) → ListingState
command_listing ups commands =
    record { kind = codes "CMD"; names = ups ∷ []; items = map (command_item ups) commands }

abbrev pub enum_item : List ℕ → List ℕ → List ℕ → List (List ℕ)
enum_item ups name value = codes "ENUM" ∷ ups ∷ name ∷ quoted value ∷ []

-- The enum values of a variable, none where it isn't there.
abbrev pub enum_values_of : Option VariableState → List (List ℕ)
enum_values_of None = []
enum_values_of (Some variable) = variable.enum_values

-- LIST ENUM: the values that the variable may have, in the order in which they were added.
abbrev pub enum_listing : List ℕ → List ℕ → Option VariableState → ListingState
enum_listing ups name variable =
    record {
      kind = codes "ENUM";
      names = ups ∷ name ∷ [];
      items = map (enum_item ups name) (enum_values_of variable);
    }

abbrev pub range_item : List ℕ → List ℕ → Range → List (List ℕ)
range_item ups name range =
    codes "RANGE" ∷ ups ∷ name ∷ quoted (signed_decimal range.least)
    ∷ quoted (signed_decimal range.greatest) ∷ []

-- The ranges of a variable, none where it isn't there.
abbrev pub ranges_of : Option VariableState → List Range
ranges_of None = []
ranges_of (Some variable) = variable.ranges

-- LIST RANGE: the ranges of numbers that the variable may have, in the order in which they were
-- added.
abbrev pub range_listing : List ℕ → List ℕ → Option VariableState → ListingState
range_listing ups name variable =
    record {
      kind = codes "RANGE";
      names = ups ∷ name ∷ [];
      items = map (range_item ups name) (ranges_of variable);
    }

abbrev pub client_item : List ℕ → List ℕ → List (List ℕ)
client_item ups address = codes "CLIENT" ∷ ups ∷ address ∷ []

-- LIST CLIENT: the addresses of the clients that are logged in to the UPS, in the order of opening.
abbrev pub client_listing : List ℕ → List (List ℕ) → ListingState
client_listing ups addresses =
    record { kind = codes "CLIENT"; names = ups ∷ []; items = map (client_item ups) addresses }

abbrev pub listing_of : Content → ListingState
listing_of (contents.Upses list) = ups_listing list
listing_of (contents.Variables ups fsd tree) = variable_listing ups fsd tree.variables
listing_of (contents.Rw ups fsd tree) = rw_listing ups fsd tree.variables
listing_of (contents.Commands ups tree) = command_listing ups tree.commands
listing_of (contents.EnumValues ups name tree) = enum_listing ups name (variable_at tree name)
listing_of (contents.Ranges ups name tree) = range_listing ups name (variable_at tree name)
listing_of (contents.Clients ups addresses) = client_listing ups addresses

-- A listing, how many of its lines are done, and how many bytes of the next line.
pub record Position : Type 0 where
  pub listing : ListingState
  pub done : ℕ
  pub offset : ℕ

-- The lines of the listing after those that are done, less the first bytes.
abbrev pub rest : Position → List ℕ
rest p = drop p.offset (concat (drop p.done (lines_of p.listing)))
