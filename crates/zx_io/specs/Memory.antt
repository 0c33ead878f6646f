-- A source and a sink in memory, of which it is known which of their calls fail.
use Rattle.std.specs.Prelude.{ℕ, ◌-◌, List, [], ◌++◌, length, drop, Contains}
use Rattle.zx_io.specs.Causes.{counted}

-- a source: its bytes left, the most that one call moves, the numbers of the calls that fail (the first
-- call is number 1), and how many calls and faults there were
pub record SourceInMemory : Type 0 where
  pub left : List ℕ
  pub piece : ℕ
  pub fails : List ℕ
  pub calls : ℕ
  pub faults : ℕ

-- a sink: its bytes taken, how many of them a flush passed on, how many it has room for, and the rest
-- as of a source
pub record SinkInMemory : Type 0 where
  pub taken : List ℕ
  pub flushed : ℕ
  pub room : ℕ
  pub piece : ℕ
  pub fails : List ℕ
  pub calls : ℕ
  pub faults : ℕ

-- the source's next call is one that fails
abbrev pub SourceFails : SourceInMemory → Type 0
SourceFails s = Contains s.fails (counted s.calls)

-- the source after a call that moved k bytes
abbrev pub source_moved : SourceInMemory → ℕ → SourceInMemory
source_moved s k = record s { left = drop k s.left; calls = counted s.calls }

-- the source after a call that failed
abbrev pub source_failed : SourceInMemory → SourceInMemory
source_failed s = record s { calls = counted s.calls; faults = counted s.faults }

-- how many bytes the sink has room for still
abbrev pub place_left : SinkInMemory → ℕ
place_left k = k.room - length k.taken

-- the sink's next call is one that fails
abbrev pub SinkFails : SinkInMemory → Type 0
SinkFails k = Contains k.fails (counted k.calls)

-- a sink that nothing was asked of yet
abbrev pub empty_sink : ℕ → ℕ → List ℕ → SinkInMemory
empty_sink room piece fails = record {
  taken = [];
  flushed = 0;
  room = room;
  piece = piece;
  fails = fails;
  calls = 0;
  faults = 0;
}

-- the sink after a call that took bytes
abbrev pub sink_took : SinkInMemory → List ℕ → SinkInMemory
sink_took k bytes = record k { taken = k.taken ++ bytes; calls = counted k.calls }

-- the sink after a call that failed
abbrev pub sink_failed : SinkInMemory → SinkInMemory
sink_failed k = record k { calls = counted k.calls; faults = counted k.faults }

-- the sink after a flush that didn't fail
abbrev pub sink_flushed : SinkInMemory → SinkInMemory
sink_flushed k = record k { flushed = length k.taken; calls = counted k.calls }
