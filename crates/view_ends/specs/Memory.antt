-- What the sources, sinks and desks in memory say.
use Rattle.std.specs.Prelude.{◌&&◌, Some, drop, is_some}
use Rattle.view_ends.specs.Desk.{Said}
use Rattle.view_ends.specs.Files.{file_of}
use Rattle.view_ends.specs.Ledger.{counts_of, said}
use Rattle.view_ends.specs.Pieces.{SourceSaid, SinkSaid}
use Rattle.view_ends.specs.declared.files.Files.{Files}
use Rattle.view_ends.specs.declared.ledger.Ledger.{Ledger}
use Rattle.view_ends.specs.declared.mem_desk.MemDesk.{MemDesk}
use Rattle.view_ends.specs.declared.mem_sink.MemSink.{MemSink}
use Rattle.view_ends.specs.declared.mem_source.MemSource.{MemSource}
use Rattle.view_ends.specs.declared.still_desk.StillDesk.{StillDesk}
use Rattle.view_ends.specs.declared.still_sink.StillSink.{StillSink}
use Rattle.view_ends.specs.declared.still_source.StillSource.{StillSource}

-- a source that never fails
abbrev pub still_source : StillSource → SourceSaid
still_source source = record { left = Some (drop source.at source.bytes.items); taken = source.at; faults = 0 }

-- a source that fails where a test says
abbrev pub mem_source : MemSource → SourceSaid
mem_source source = record (still_source source.still) { faults = source.faults }

-- a sink that never fails
abbrev pub still_sink : StillSink → SinkSaid
still_sink sink = record { got = Some sink.bytes.items; faults = 0 }

-- a sink that fails where a test says
abbrev pub mem_sink : MemSink → SinkSaid
mem_sink sink = record (still_sink sink.still) { faults = sink.faults }

-- a desk of these files: a name is known that was opened and has a file
abbrev pub held : Files → Ledger → Said
held files ledger = record (said (file_of files) ledger) { known = λ name. (counts_of ledger name).known && is_some (file_of files name) }

-- a desk of which only the opening of a name without a file fails
abbrev pub still_desk : StillDesk → Said
still_desk desk = record (held desk.files desk.ledger) { reads = λ _. 0; writes = λ _. 0; unkept = λ _. 0 }

-- a desk that fails where a test says
abbrev pub mem_desk : MemDesk → Said
mem_desk desk = held desk.files desk.ledger
