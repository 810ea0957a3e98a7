-- What a sink in memory shows of itself.
use Rattle.std.specs.Prelude.{ℕ, List}
use Rattle.rast_io.specs.declared.mem_sink.MemSink.{MemSink}

-- all bytes that were taken
abbrev pub sink_bytes : MemSink → List ℕ
sink_bytes s = s.bytes.items

-- how many more bytes can be taken
abbrev pub sink_room : MemSink → ℕ
sink_room s = s.room

-- the most bytes that one write takes
abbrev pub sink_most : MemSink → ℕ
sink_most s = s.most

-- how many calls of write there were
abbrev pub sink_calls : MemSink → ℕ
sink_calls s = s.calls.done

-- the calls that are to fail, by their numbers from 1 on
abbrev pub sink_listed : MemSink → List ℕ
sink_listed s = s.calls.listed.items

-- how many calls have failed
abbrev pub sink_faults : MemSink → ℕ
sink_faults s = s.calls.faults
