-- the texts so far
use Rattle.std.proofs.Common.{◌≡◌, ℕ, ◌<◌, length, get_or}
use Rattle.ip_text.specs.declared.hexadecimal.HexText.{HexText}
use Rattle.ip_text.specs.HexTexts.{IsHexText}
use Rattle.ip_text.proofs.hexadecimal.HexTexts.new.Given as goal

abbrev pub invariant-loop-i : goal.invariant-loop-i
invariant-loop-i l = record {
  all : length l.texts ≡ 256;
  made : (k : ℕ) → k < l.i → (d : HexText) → IsHexText k (get_or l.texts k d);
}
