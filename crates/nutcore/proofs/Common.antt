-- The words that most proofs speak of: of the library, and of the server.
use Rattle.std.proofs.Common.{◌≡◌, Bool, true, false}
pub use Rattle.std.specs.Prelude.{slice_get}
pub use Rattle.std.specs.Option.{option_map, option_map_or}
pub use Rattle.std.proofs.lemmas.Bool.{cond_both, cond-true, cond-false, and_from, and_parts}
pub use Rattle.std.proofs.lemmas.Bool.{or_parts, eqb-true, eqb-false, le-leb, lt-leb, ltb-true}
pub use Rattle.std.proofs.lemmas.Bool.{leb-true}
pub use Rattle.std.proofs.lemmas.Option.{same_Some, slice_get-map, slice_get_within, slice_get_read}
pub use Rattle.std.proofs.lemmas.Grind.{flat_map-append}
pub use Rattle.std.proofs.lemmas.List.{take-append-drop, length-map, length-replicate}
pub use Rattle.nutusers.specs.declared.ups_list.UpsId.{UpsId}
pub use Rattle.nutanswer.specs.declared.reply.Change.{Change}
pub use Rattle.nutcore.specs.declared.event.Event.{Event}
pub use Rattle.nutcore.specs.declared.event.Fault.{Fault}
pub use Rattle.nutcore.specs.declared.event.Outcome.{Outcome}
pub use Rattle.nutcore.specs.Session.{SessionState}
pub use Rattle.nutcore.specs.Ups.{UpsState}
pub use Rattle.nuttracking.specs.Tracking.{TrackingState}
pub use Rattle.nutcore.specs.Server.{ServerState, session, with_session}
pub use Rattle.nutcore.specs.Parts.{ups_at, changed_at}
pub use Rattle.nutcore.specs.Server.{with_session_changed}
pub use Rattle.nutcore.specs.Parts.{with_ups_changed, with_tracking}
pub use Rattle.nutcore.specs.Step.{Step, after}
pub use Rattle.nutcore.specs.Run.{Run}

-- what is both true and false
pub never_both : {A : Type 0} (b : Bool) → b ≡ true → b ≡ false → A
never_both true e f = cc f
never_both false e f = cc e
