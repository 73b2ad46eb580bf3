-- What a sound server lists is read back.
use Rattle.std.proofs.Common.{◌≡◌, ℕ, List, [], ◌∷◌, Option, Some, Ok, refl, sym, subst}
use Rattle.std.specs.Prelude.{codes, map, All, IsTrue}
use Rattle.std.proofs.lemmas.List.Elements.{All-filter, All-map}
use Rattle.std.proofs.lemmas.Simd.{map-map}
use Rattle.nutwords.specs.Frame.{frame}
use Rattle.nutwords.specs.Reading.{is_ups_name, is_address}
use Rattle.nutlisting.specs.Items.{client_item}
use Rattle.nutlisting.specs.ReadsBack.{ReadsBack}
use Rattle.nutlisting.proofs.PublicLaws.{lawful_listings_read_back, sound_entries}
use Rattle.nutanswer.specs.Checks.{KnownUps, ups_named}
use Rattle.nutcommand.specs.Command.{read_command, HasLawfulUpsName, IsLawfulReading}
use Rattle.nutanswer.proofs.PublicLaws.{a_named_ups_is_seen}
use Rattle.nutcommand.proofs.PublicLaws.{what_is_read_is_lawful}
use Rattle.nutcommand.specs.declared.command.Command.{Command}
use Rattle.nutcore.specs.ByRight.{logged_in}
use Rattle.nutcore.specs.ReadsBack.{HasLawfulAddress, EachListingReadsBack}
use Rattle.nutcore.specs.Reply.{seen}
use Rattle.nutcore.specs.Server.{ServerState}
use Rattle.nutcore.specs.Session.{SessionState}
use Rattle.nutcore.proofs.Listed.{listed_once}
use Rattle.nutcore.proofs.LoginCount.{is_in, who_is_there}

-- what a line reads as is lawful
lawful_of : (line : List ℕ) (command : Command) → read_command line ≡ Ok (Some command) →
    IsLawfulReading (Ok (Some command))
lawful_of line command read = subst IsLawfulReading read (what_is_read_is_lawful line)

-- a UPS that is found by a name has the name, which is lawful where the line gave it
named_lawful : (s : ServerState) (ups : Option (List ℕ)) (u : KnownUps) →
    HasLawfulUpsName ups → ups_named (seen s) ups ≡ Some u → IsTrue (is_ups_name u.name)
named_lawful s ups u lawful named = lawful u.name (a_named_ups_is_seen (seen s) ups u named).name_is

-- an answer that is a listing reads as the listing does
told : (text other : List ℕ) (asked : List (List ℕ)) (items : List (List (List ℕ))) →
    text ≡ other → ReadsBack other asked items → ReadsBack text asked items
told text other asked items same back = subst (λ (t : List ℕ). ReadsBack t asked items) (sym same) back

-- the clients that are logged in to a UPS, where their addresses are lawful
clients_back : (s : ServerState) (u : KnownUps) → IsTrue (is_ups_name u.name) →
    All HasLawfulAddress s.sessions →
    (let items = map (λ (x : SessionState). client_item u.name x.address) (logged_in u.id s) in
    ReadsBack (frame (codes "CLIENT") (u.name ∷ []) items) (codes "CLIENT" ∷ u.name ∷ []) items)
clients_back s u named lawful =
    subst (λ (items : List (List (List ℕ))). ReadsBack
    (frame (codes "CLIENT") (u.name ∷ []) items) (codes "CLIENT" ∷ u.name ∷ []) items)
    (map-map (client_item u.name) (λ (x : SessionState). x.address) (logged_in u.id s))
    (lawful_listings_read_back.clients u.name (map (λ (x : SessionState). x.address) (logged_in u.id s)) named
    (All-map (λ address. IsTrue (is_address address)) (λ (x : SessionState). x.address)
    (logged_in u.id s) (All-filter (is_in u.id) HasLawfulAddress s.sessions lawful)))

pub listings_read_back : EachListingReadsBack
listings_read_back = record {
  variables = λ s c line ups u sound read asks.
      told _ _ _ _ (listed_once.variables s c line ups u read asks).0
      (lawful_listings_read_back.variables u.name u.state.fsd u.state.report.tree
      (named_lawful s ups u (lawful_of line _ read) asks.named) (listed_once.tree s ups u sound asks.named));
  rw = λ s c line ups u sound read asks.
      told _ _ _ _ (listed_once.rw s c line ups u read asks).0
      (lawful_listings_read_back.rw u.name u.state.fsd u.state.report.tree
      (named_lawful s ups u (lawful_of line _ read) asks.named) (listed_once.tree s ups u sound asks.named));
  commands = λ s c line ups u sound read asks.
      told _ _ _ _ (listed_once.commands s c line ups u read asks).0
      (lawful_listings_read_back.commands u.name u.state.report.tree
      (named_lawful s ups u (lawful_of line _ read) asks.named) (listed_once.tree s ups u sound asks.named));
  enum_values = λ s c line ups name u variable sound read asks there.
      let lawful = lawful_of line _ read in
      told _ _ _ _ (listed_once.enum_values s c line ups name u variable read asks there).0
      (lawful_listings_read_back.enum_values u.name name variable
      (named_lawful s ups u lawful.0 asks.named) (lawful.1 name refl)
      (sound_entries.found u.state.report.tree name variable (listed_once.tree s ups u sound asks.named) there));
  ranges = λ s c line ups name u variable sound read asks there.
      let lawful = lawful_of line _ read in
      told _ _ _ _ (listed_once.ranges s c line ups name u variable read asks there).0
      (lawful_listings_read_back.ranges u.name name variable
      (named_lawful s ups u lawful.0 asks.named) (lawful.1 name refl)
      (sound_entries.found u.state.report.tree name variable (listed_once.tree s ups u sound asks.named) there));
  upses = λ s c line sound read. told _ _ _ _ (listed_once.upses s c line read).0
      (lawful_listings_read_back.upses s.list sound.list.lawful);
  clients = λ s c line ups u sound read found lawful.
      told _ _ _ _ (who_is_there.listed s c line ups u read found)
      (clients_back s u (named_lawful s ups u (lawful_of line _ read) found) lawful);
}
