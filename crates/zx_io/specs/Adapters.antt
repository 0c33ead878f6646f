-- What an adapter holds.
use Rattle.std.specs.Prelude.{ℕ}
use Rattle.zx_io.specs.declared.adapters.ReadAdapter.{ReadAdapter}
use Rattle.zx_io.specs.declared.adapters.WriteAdapter.{WriteAdapter}

-- the reader of an adapter
abbrev pub adapted_reader : {R : Type 0} → ReadAdapter R → R
adapted_reader s = s.reader

-- how many calls of the adapter failed
abbrev pub read_faults : {R : Type 0} → ReadAdapter R → ℕ
read_faults s = s.faults

-- the writer of an adapter
abbrev pub adapted_writer : {W : Type 0} → WriteAdapter W → W
adapted_writer k = k.writer

-- how many calls of the adapter failed
abbrev pub write_faults : {W : Type 0} → WriteAdapter W → ℕ
write_faults k = k.faults
