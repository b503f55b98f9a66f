-- Standard output: a writer with a buffer before it, and how far what was written has come.
use Rattle.std.specs.Prelude.{ℕ, List, take, Option, Result, MatchResult}
use Rattle.std.specs.Io.KnownBytes.{Appends}
use Rattle.std.specs.Io.Buffered.{writer_inner, writer_buffer, writer_contents}
use Rattle.pv_files.specs.declared.standard.StandardOutput.{StandardOutput}

-- all bytes that were written: those that have gone to the writer itself, and then those that are still in the buffer
abbrev pub written_bytes : {W : Type 0} → (W → Option (List ℕ)) → StandardOutput W → Option (List ℕ)
written_bytes contents out = writer_contents contents out.writer

-- the bytes that have gone to the writer itself
abbrev pub flushed_bytes : {W : Type 0} → (W → Option (List ℕ)) → StandardOutput W → Option (List ℕ)
flushed_bytes contents out = contents (writer_inner out.writer)

-- the bytes that are still in the buffer
abbrev pub buffered_bytes : {W : Type 0} → StandardOutput W → List ℕ
buffered_bytes out = writer_buffer out.writer

-- all bytes were written; an error has written a prefix of them, perhaps none or all
abbrev pub WritesWhole : {T E : Type 0} → Option (List ℕ) → Option (List ℕ) → Result T E → List ℕ → Type 0
WritesWhole before now answer bytes = MatchResult answer (λ _. Appends before now bytes) (λ _. (n : ℕ) × Appends before now (take n bytes))
