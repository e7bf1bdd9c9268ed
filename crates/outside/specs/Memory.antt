-- What a source and a sink in memory do at a call. Their fields are plain, and each call is counted.
use Rattle.std.specs.Prelude.{ℕ, ◌+◌, List, ◌++◌, take, min, max, Result, Ok, Err}
use Rattle.outside.specs.declared.fault.Failed.{Failed}
use Rattle.outside.specs.declared.memory.MemSource.{MemSource}
use Rattle.outside.specs.declared.memory.MemSink.{MemSink}
use Rattle.outside.specs.Outside.{one_more}

-- how many of so many bytes one call takes: a piece at most, but at least one
abbrev pub piece_of : ℕ → ℕ → ℕ
piece_of piece bytes = min (max piece 1) bytes

-- the source after a call that gave so many bytes, or failed
abbrev pub source_after : MemSource → Result ℕ Failed → MemSource
source_after source (Ok count) = record source { at = source.at + count; calls = one_more source.calls }
source_after source (Err _) = record source { calls = one_more source.calls; faults = one_more source.faults }

-- the sink after a call that took so many bytes of the piece, or failed
abbrev pub sink_after : MemSink → List ℕ → Result ℕ Failed → MemSink
sink_after sink bytes (Ok count) = record sink { got = sink.got ++ take count bytes; calls = one_more sink.calls }
sink_after sink bytes (Err _) = record sink { calls = one_more sink.calls; faults = one_more sink.faults }
