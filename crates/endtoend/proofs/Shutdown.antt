-- After a forced shutdown every answer that has the status begins its value with FSD.
use Rattle.std.proofs.Common.{◌≡◌, ◌∙◌, inl, inr, ℕ, zero, suc, ◌<◌, false, List}
use Rattle.std.proofs.Common.{[], ◌∷◌, ◌++◌}
use Rattle.std.proofs.Common.{length, Some, Ok, refl, sym, ap, subst, arith}
use Rattle.std.specs.Prelude.{All, codes, map, nat_eq}
use Rattle.std.specs.List.{Contains, filter, starts_with, slice_index_or}
use Rattle.std.proofs.lemmas.List.{map-append}
use Rattle.nutwords.specs.Frame.{frame, line_of}
use Rattle.nutwords.specs.Spelling.{quoted}
use Rattle.nutwords.specs.SplitLine.{with_lf}
use Rattle.nutdriver.specs.Sound.{IsSoundTree}
use Rattle.nutdriver.specs.Variable.{VariableState}
use Rattle.nutlisting.specs.Items.{variable_item, is_rw}
use Rattle.nutlisting.specs.Shown.{shown}
use Rattle.nutcommand.specs.Command.{read_command, asks_data_of}
use Rattle.nutcommand.specs.declared.command.Command.{Command}
use Rattle.nutcommand.specs.declared.command.Command.TheVariants as commands
use Rattle.nutanswer.specs.Checks.{KnownUps}
use Rattle.nutcore.specs.ByRight.{AForcedShutdownReachesEverybody}
use Rattle.nutcore.specs.FreshRuns.{WasFresh, IsAnsweredFresh, WhateverIsAnsweredIsFresh}
use Rattle.nutcore.specs.History.{of_line}
use Rattle.nutcore.specs.Listed.{EachIsListedOnce, WhatIsListedIsWhatIsHeld}
use Rattle.nutcore.specs.Reply.{seen, reply}
use Rattle.nutcore.specs.Server.{ServerState}
use Rattle.nutclient.specs.Printed.{Prints}
use Rattle.endtoend.specs.Printed.{UpscPrintsTheVariable}
use Rattle.endtoend.specs.Shutdown.{IsAfterShutdown, ShowsShutdown, forced_status, status_words}
use Rattle.endtoend.specs.Shutdown.{ListsStatus, EveryAnswerShowsAForcedShutdown}
use Rattle.endtoend.proofs.FromDriver.{all_at}
use Rattle.endtoend.proofs.Printing.{name_kept}
use Rattle.endtoend.proofs.Requests.{get_var_read}
use Rattle.endtoend.proofs.Handing.{some_same}

-- where an element is
record HasPlace {A : Type 0} (xs : List A) (x : A) : Type 0 where
  before : List A
  after : List A
  is : xs ≡ before ++ x ∷ after

place_of : {A : Type 0} (xs : List A) (x : A) (k : ℕ) → k < length xs →
    slice_index_or xs k x ≡ x → HasPlace xs x
place_of [] x k few is = absurd (omega arith)
place_of (y ∷ xs) x zero few is = record { before = []; after = xs; is = ap (λ z. z ∷ xs) is }
place_of (y ∷ xs) x (suc k) few is =
    let p = place_of xs x k (omega arith) is in
    record { before = y ∷ p.before; after = p.after; is = ap (λ zs. y ∷ zs) p.is }

module _ (marks : AForcedShutdownReachesEverybody) (held : WhatIsListedIsWhatIsHeld) (each : EachIsListedOnce)
    (fresh : WhateverIsAnsweredIsFresh) (prints : UpscPrintsTheVariable) (s : ServerState) (c : ℕ)
    (line ups : List ℕ) (status : VariableState) (h : IsAfterShutdown s c line ups status) where
  entry : List ℕ × VariableState
  entry = (codes "ups.status", status)

  name_is : h.known.name ≡ ups
  name_is = name_kept (seen s) ups h.known h.asks.named

  is_marked : shown h.known.state.fsd (codes "ups.status") status ≡ forced_status status
  is_marked =
      elim (marks.shown h.old h.new h.events h.outcomes h.before h.after s c line (Some ups) h.known
      status h.run h.executed h.asks.named) [
        | inl (was, is) ↦ is
        | inr (never, is) ↦ absurd (never (inr h.forced))
      ]

  item_is : (kind : List ℕ) → variable_item kind ups h.known.state.fsd entry ≡ status_words kind ups status
  unfolding entry
  item_is kind = ap (λ (value : List ℕ). kind ∷ ups ∷ codes "ups.status" ∷ quoted value ∷ []) is_marked

  tree_sound : (command : Command) → read_command line ≡ Ok (Some command) →
      asks_data_of command ≡ Some (Some ups)
      → starts_with nat_eq (reply s c line) (codes "ERR") ≡ false → IsSoundTree h.known.state.report.tree
  tree_sound command read of_ups granted =
      let was : WasFresh h.old h.events h.outcomes s c line (Some ups) =
      all_at (IsAnsweredFresh h.old h.events h.outcomes) h.before h.after (of_line s c line)
      (subst (All (IsAnsweredFresh h.old h.events h.outcomes)) h.executed
      (fresh h.old h.new h.events h.outcomes h.begins h.run)) command (Some ups) read of_ups granted in
      subst (λ (k : KnownUps). IsSoundTree k.state.report.tree)
      (some_same (sym was.named ∙ h.asks.named)) was.sound

  lists : (kind : List ℕ) (entries : List (List ℕ × VariableState)) → Contains entries entry →
      reply s c line ≡ frame kind (h.known.name ∷ [])
      (map (variable_item kind h.known.name h.known.state.fsd) entries)
      → ListsStatus kind ups status (reply s c line)
  lists kind entries (k, few, is) text =
      let p = place_of entries entry k few is in
      let item : List ℕ × VariableState → List (List ℕ) = variable_item kind ups h.known.state.fsd in (
        map item p.before,
        map item p.after,
        text ∙ ap (λ (name : List ℕ). frame kind (name ∷ [])
            (map (variable_item kind name h.known.state.fsd) entries))
            name_is ∙ ap (λ (xs : List (List ℕ × VariableState)). frame kind (ups ∷ []) (map item xs)) p.is
            ∙ ap (frame kind (ups ∷ [])) (map-append item p.before (entry ∷ p.after)
            ∙ ap (λ (words : List (List ℕ)). map item p.before ++ words ∷ map item p.after) (item_is kind)),
      )

  shows : ShowsShutdown s c line ups status
  unfolding entry
  shows = record {
    got = λ read. held.got s c line (Some ups) (codes "ups.status") h.known status read h.asks h.reports
        ∙ ap (λ (name : List ℕ). line_of (variable_item (codes "VAR") name h.known.state.fsd entry)) name_is
        ∙ ap line_of (item_is (codes "VAR"));
    listed = λ read.
        let tree = h.known.state.report.tree in
        let text = (each.variables s c line (Some ups) h.known read h.asks).0 in
        let sound = tree_sound (commands.ListVar (Some ups)) read refl
        (ap (λ (t : List ℕ). starts_with nat_eq t (codes "ERR")) text) in
        lists (codes "VAR") tree.variables
        ((held.variables tree (codes "ups.status") status sound).1 h.reports) text;
    listed_rw = λ read writable.
        let tree = h.known.state.report.tree in
        let text = (each.rw s c line (Some ups) h.known read h.asks).0 in
        let sound = tree_sound (commands.ListRw (Some ups)) read refl
        (ap (λ (t : List ℕ). starts_with nat_eq t (codes "ERR")) text) in
        lists (codes "RW") (filter is_rw tree.variables)
        ((held.rw tree (codes "ups.status") status sound).1 (h.reports, writable)) text;
    printed = λ more n asks.
        let read = get_var_read ups (codes "ups.status") n refl line asks in
        let text = held.got s c line (Some ups) (codes "ups.status") h.known status read h.asks h.reports in
        let sound = tree_sound (commands.GetVar (Some ups) (Some (codes "ups.status"))) read refl
        (ap (λ (t : List ℕ). starts_with nat_eq t (codes "ERR")) text) in
        prints s c ups (codes "ups.status") line h.known status more n refl
        (record { asks = h.asks; sound = sound }) h.reports asks
        ∙ ap (λ (value : List ℕ). Prints (with_lf value)) is_marked;
  }

pub shutdown_shown : AForcedShutdownReachesEverybody → WhatIsListedIsWhatIsHeld → EachIsListedOnce →
    WhateverIsAnsweredIsFresh → UpscPrintsTheVariable → EveryAnswerShowsAForcedShutdown
shutdown_shown marks held each fresh prints =
    λ s c line ups status h. shows marks held each fresh prints s c line ups status h
