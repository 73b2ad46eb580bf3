-- The lines of a listing after those that are done.
use Rattle.std.specs.Prelude.{◌≡◌, ℕ, List, [], ◌∷◌, ◌++◌, Option, Some, None, codes, map, filter}
use Rattle.std.specs.Prelude.{drop, length, ◌-◌, ◌<◌}
use Rattle.std.specs.Ordering.{is_lt}
use Rattle.nutwords.specs.Frame.{line_of}
use Rattle.nutmap.specs.Entries.{entries_after}
use Rattle.nutdriver.specs.Tree.{byte_order, variable_at}
use Rattle.nutlisting.specs.declared.listing.Content.{Content}
use Rattle.nutlisting.specs.declared.listing.Content.TheVariants as contents
use Rattle.nutlisting.specs.declared.listing.stage.Stage.{Stage}
use Rattle.nutlisting.specs.declared.listing.stage.Stage.TheVariants.{Start, Names, Items, Done}
use Rattle.nutlisting.specs.Items.{listing_of}
use Rattle.nutlisting.specs.Items.{lines_of, edge_line, ups_item, variable_item, rw_items}
use Rattle.nutlisting.specs.Items.{command_item, enum_item, enum_values_of, range_item, ranges_of}
use Rattle.nutlisting.specs.Items.{client_item}
use Rattle.nutlisting.specs.Lines.{IsWholeLine}
use Rattle.nutlisting.specs.Items.{Position, rest}

-- The names after a name, all of them where none is given.
abbrev pub names_after : List (List ℕ) → Option (List ℕ) → List (List ℕ)
names_after names None = names
names_after names (Some name) = filter (λ other. is_lt (byte_order name other)) names

-- Which lines are done: the stage, and the name of the last item, where items go by their names.
abbrev pub Reached : Type 0
Reached = Stage × Option (List ℕ)

-- The items after those that are done.
abbrev pub items_past : Content → Reached → List (List (List ℕ))
items_past (contents.Upses list) (Items n, last) = map ups_item (drop n list)
items_past (contents.Variables ups fsd tree) (Names, last) =
    map (variable_item (codes "VAR") ups fsd) (entries_after byte_order tree.variables last)
items_past (contents.Rw ups fsd tree) (Names, last) =
    rw_items ups fsd (entries_after byte_order tree.variables last)
items_past (contents.Commands ups tree) (Names, last) =
    map (command_item ups) (names_after tree.commands last)
items_past (contents.EnumValues ups name tree) (Items n, last) =
    map (enum_item ups name) (drop n (enum_values_of (variable_at tree name)))
items_past (contents.Ranges ups name tree) (Items n, last) =
    map (range_item ups name) (drop n (ranges_of (variable_at tree name)))
items_past (contents.Clients ups addresses) (Items n, last) =
    map (client_item ups) (drop n addresses)
items_past _ _ = []

-- The stage before the first item.
abbrev pub first_stage : Content → Stage
first_stage (contents.Upses list) = Items 0
first_stage (contents.Variables ups fsd tree) = Names
first_stage (contents.Rw ups fsd tree) = Names
first_stage (contents.Commands ups tree) = Names
first_stage (contents.EnumValues ups name tree) = Items 0
first_stage (contents.Ranges ups name tree) = Items 0
first_stage (contents.Clients ups addresses) = Items 0

-- The lines of the items after those that are done, and END.
abbrev pub item_lines : Content → Reached → List (List ℕ)
item_lines content reached =
    map line_of (items_past content reached) ++ edge_line (codes "END") (listing_of content) ∷ []

-- The lines after those that are done.
abbrev pub lines_past : Content → Reached → List (List ℕ)
lines_past content (Start, last) = lines_of (listing_of content)
lines_past content (Names, last) = item_lines content (Names, last)
lines_past content (Items n, last) = item_lines content (Items n, last)
lines_past content (Done, last) = []

-- The line is that of the first of the items, and the others are after it.
pub record IsFirst (items : List (List (List ℕ))) (line : List ℕ)
    (others : List (List (List ℕ))) : Type 0 where
  pub first : map line_of items ≡ line ∷ map line_of others
  pub whole_line : IsWholeLine line

-- The line is the first after those that are done, and the others are after the later ones.
pub record IsNext (content : Content) (reached : Reached) (line : List ℕ) (after : Reached)
    : Type 0 where
  pub first : lines_past content reached ≡ line ∷ lines_past content after
  pub whole_line : IsWholeLine line

-- How many lines are done.
abbrev pub lines_done : Content → Reached → ℕ
lines_done content reached =
    length (lines_of (listing_of content)) - length (lines_past content reached)

-- The offset is within the first of the lines.
abbrev pub IsWithin : List (List ℕ) → ℕ → Type 0
IsWithin [] offset = offset ≡ 0
IsWithin (line ∷ lines) offset = offset < length line

-- The lines that are done, and so many bytes of the next one.
abbrev pub position : Content → Reached → ℕ → Position
position content reached offset =
    record { listing = listing_of content; done = lines_done content reached; offset = offset }

pub record IsPosition (content : Content) (reached : Reached) (offset : ℕ) : Type 0 where
  pub at : lines_past content reached
      ≡ drop (lines_done content reached) (lines_of (listing_of content))
  pub within : IsWithin (lines_past content reached) offset

-- What is still to be placed from there.
abbrev pub rest_at : Content → Reached → ℕ → List ℕ
rest_at content reached offset = rest (position content reached offset)
