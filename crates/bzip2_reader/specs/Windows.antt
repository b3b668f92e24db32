-- The bytes of a window.
use Rattle.std.specs.Prelude.{ℕ, List, take}
use Rattle.bzip2_reader.specs.declared.window.Window.{Window}

-- the bytes of the device that are held
abbrev pub window_bytes : Window → List ℕ
window_bytes window = take window.filled window.block.items
