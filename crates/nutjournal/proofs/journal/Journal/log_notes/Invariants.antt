use Rattle.std.proofs.Common.{◌≡◌, drop}
use Rattle.nutjournal.specs.declared.log_buffer.LogBuffer.{LogBuffer}
use Rattle.nutjournal.specs.Lines.{DuesMore, after_dues, drivers_along, dues_along, dues_of}
use Rattle.nutjournal.proofs.journal.Journal.log_notes.Given as goal

-- the lines of the notes so far are logged or counted
abbrev pub invariant-loop-note : goal.invariant-loop-note
invariant-loop-note l = record {
  tallies : after_dues (dues_along l.server.state.moment l.server.notes
      (drop l.note-index l.server.notes) l.self.drivers) l.self.tallies
      ≡ after_dues (dues_of l.server.state.moment l.server.notes l.fn.self.drivers) l.fn.self.tallies;
  drivers : drivers_along l.server.state.moment (drop l.note-index l.server.notes) l.self.drivers
      ≡ drivers_along l.server.state.moment l.server.notes l.fn.self.drivers;
  same : l.self ≡ record l.fn.self { log = l.self.log; drivers = l.self.drivers; tallies = l.self.tallies };
  log : (end : LogBuffer)
      → DuesMore l.server.state.list
      (dues_along l.server.state.moment l.server.notes (drop l.note-index l.server.notes)
      l.self.drivers) l.self.tallies l.self.log end
      → DuesMore l.server.state.list
      (dues_of l.server.state.moment l.server.notes l.fn.self.drivers) l.fn.self.tallies l.fn.self.log end;
}
