-- The most that is read of a file and of a line.
use Rattle.std.specs.Prelude.{ℕ}

-- a file has at most 32 MiB
abbrev pub most_bytes : ℕ
most_bytes = 33554432

-- the LF of a line stands among so many bytes
abbrev pub line_bytes : ℕ
line_bytes = 65536
