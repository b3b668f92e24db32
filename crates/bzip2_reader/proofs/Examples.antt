-- Examples of what bits mean and of what files unpack to, by computation.
use Rattle.std.proofs.Common.{◌≡◌, ℕ, arith, refl, true, false, Some, None, Ok, Err, List, [], ◌∷◌, ◌++◌, ap, get_or, take}
use Rattle.std.specs.Prelude.{codes}
use Rattle.mrt_frame.proofs.Hexadecimal.{hex}
use Rattle.bzip2_reader.specs.declared.fault.BlockFault.TheVariants.{BadChecksum, Randomised, ShortBlock}
use Rattle.bzip2_reader.specs.declared.fault.Cause.TheVariants.{Block, EarlyEnd, NoStream, StreamChecksum}
use Rattle.bzip2_reader.specs.Checksums.{crc, crc_bits, crc_bit}
use Rattle.bzip2_reader.specs.Runs.{written, written_from}
use Rattle.bzip2_reader.specs.Fields.{bits_of, number, number_from}
use Rattle.bzip2_reader.specs.Codes.{code_of, depth_at, first_code, fits, length_from, lengths_from, selectors_at, selectors_from, symbol_at, table_at, tables_at, used_selectors}
use Rattle.bzip2_reader.specs.Rotations.{AreSortedRotations, IsTransform, rotations}
use Rattle.bzip2_reader.specs.Symbols.{column_from, values_at, values_in}
use Rattle.bzip2_reader.specs.Transform.{row_after, text_from, text_of}
use Rattle.bzip2_reader.specs.Blocks.{block_at, block_head_at, rows_at}
use Rattle.bzip2_reader.specs.Files.{block_in, end_in, head_at, unpack, unpack_from, unpacked}
use Rattle.bzip2_reader.proofs.RotationLaws.{in_order, in_order_are, one_column}

fields : record {
  of_a_byte : bits_of (0xA5 ∷ []) ≡ 1 ∷ 0 ∷ 1 ∷ 0 ∷ 0 ∷ 1 ∷ 0 ∷ 1 ∷ [];
  of_three_bits : number 3 (1 ∷ 1 ∷ 0 ∷ 1 ∷ []) ≡ Ok (6, 1 ∷ []);
  of_no_bits : number 2 (1 ∷ []) ≡ Err ShortBlock;
}
unfolding bits_of number_from
fields = record { of_a_byte = refl; of_three_bits = refl; of_no_bits = refl }

-- the codes of RFC 1951, 3.2.2: lengths 3, 3, 3, 3, 3, 2, 4, 4
abbrev lengths : List ℕ
lengths = 3 ∷ 3 ∷ 3 ∷ 3 ∷ 3 ∷ 2 ∷ 4 ∷ 4 ∷ []

codes_of_lengths : record {
  a : code_of lengths 0 ≡ 2;
  e : code_of lengths 4 ≡ 6;
  f : code_of lengths 5 ≡ 0;
  h : code_of lengths 7 ≡ 15;
  fit : fits lengths ≡ true;
  do_not_fit : fits (1 ∷ 1 ∷ 2 ∷ []) ≡ false;
  found : symbol_at lengths (1 ∷ 1 ∷ 1 ∷ 1 ∷ 0 ∷ []) ≡ Ok (7, 0 ∷ []);
  shorter : symbol_at lengths (0 ∷ 0 ∷ 1 ∷ []) ≡ Ok (5, 1 ∷ []);
  short : symbol_at lengths (1 ∷ 1 ∷ 1 ∷ []) ≡ Err ShortBlock;
}
unfolding first_code fits symbol_at number_from
codes_of_lengths = record { a = refl; e = refl; f = refl; h = refl; fit = refl; do_not_fit = refl; found = refl; shorter = refl; short = refl }

-- "banana" and its rotations, in order
abbrev rows : List (List ℕ)
rows = codes "abanan" ∷ codes "anaban" ∷ codes "ananab" ∷ codes "banana" ∷ codes "nabana" ∷ codes "nanaba" ∷ []

banana_row : IsTransform (codes "banana") (codes "nnbaaa") 3
banana_row = record { rows = rows; sorted = in_order_are (codes "banana"); last = refl; inside = omega arith; itself = refl }

-- In order the rotations of "abab" are abab, abab, baba and baba: the text is the first row and the second.
rotated : record {
  of_banana : rotations (codes "banana") ≡ codes "banana" ∷ codes "ananab" ∷ codes "nanaba" ∷ codes "anaban" ∷ codes "nabana" ∷ codes "abanan" ∷ [];
  in_their_order : AreSortedRotations (codes "banana") rows;
  banana : IsTransform (codes "banana") (codes "nnbaaa") 3;
  no_other : (row : ℕ) → IsTransform (codes "banana") (codes "nbnaaa") row → ⊥;
  periodic : IsTransform (codes "abab") (codes "bbaa") 0;
  equal_row : IsTransform (codes "abab") (codes "bbaa") 1;
}
rotated = record {
  of_banana = refl;
  in_their_order = in_order_are (codes "banana");
  banana = banana_row;
  no_other = λ row t. (let e : ◌≡◌ {A = ℕ} 98 110 = ap (λ l. get_or l 1 0) (one_column (codes "banana") (codes "nbnaaa") (codes "nnbaaa") row 3 t banana_row) in omega (arith, e));
  periodic = record { rows = in_order (rotations (codes "abab")); sorted = in_order_are (codes "abab"); last = refl; inside = omega arith; itself = refl };
  equal_row = record { rows = in_order (rotations (codes "abab")); sorted = in_order_are (codes "abab"); last = refl; inside = omega arith; itself = refl };
}

-- Equal bytes of a column in the other order would lead elsewhere.
transforms : record {
  rows_after : row_after (codes "nnbaaa") ≡ 3 ∷ 4 ∷ 5 ∷ 2 ∷ 0 ∷ 1 ∷ [];
  other_order : text_from (codes "nnbaaa") (5 ∷ 4 ∷ 3 ∷ 2 ∷ 1 ∷ 0 ∷ []) 3 6 ≡ codes "bababa";
  banana : text_of (codes "nnbaaa") 3 ≡ codes "banana";
  another_row : text_of (codes "nnbaaa") 0 ≡ codes "abanan";
  periodic : text_of (codes "bbaa") 0 ≡ codes "abab";
  equal_row : text_of (codes "bbaa") 1 ≡ codes "abab";
}
unfolding row_after text_from
transforms = record { rows_after = refl; other_order = refl; banana = refl; another_row = refl; periodic = refl; equal_row = refl }

-- ---- files that Python's bz2 wrote

abbrev empty : List ℕ
empty = hex (codes "425A6831 177245385090 00000000")

abbrev banana : List ℕ
banana = hex (codes "425A6831 314159265359 EFB6EC01 00000181003001200030CC0C7A885E 2EE48A70A121DF6DD802")

-- ten times the letter a, and of level 9
abbrev ten_equal : List ℕ
ten_equal = hex (codes "425A6839 314159265359 5978D18B 00000241000100200020002100820B 177245385090 5978D18B")

-- three groups of symbols
abbrev sentence : List ℕ
sentence = hex (codes "425A6831 314159265359 D8B83885 0000111B8060047FF00C003FFFFFF0200068543691A00D3350D0D0321EA08A7913234680D34000D3468BB00732D809A68D9082512249DF5AABD6C1C31C9AAA1BD28FD901CCFE34403C4421E9C794C1C2B54B203C1E47596A4149A710A2B719FF10740C5CD5210C542022638C4DED2D57E2EE48A70A121B170710A0")

-- the first file with a bit turned: the first of the block's checksum, the bit of shuffled blocks, the first of the stream's
abbrev bad_block : List ℕ
bad_block = hex (codes "425A6831 314159265359 6FB6EC01 00000181003001200030CC0C7A885E 2EE48A70A121DF6DD802")

abbrev shuffled : List ℕ
shuffled = hex (codes "425A6831 314159265359 EFB6EC01 80000181003001200030CC0C7A885E 2EE48A70A121DF6DD802")

abbrev bad_stream : List ℕ
bad_stream = hex (codes "425A6831 314159265359 EFB6EC01 00000181003001200030CC0C7A885E 2EE48A70A120DF6DD802")

files : record {
  of_nothing : unpacked [] ≡ record { given = []; damage = None };
  of_an_empty_stream : unpacked empty ≡ record { given = []; damage = None };
  of_a_block : unpacked banana ≡ record { given = codes "banana"; damage = None };
  of_a_run : unpacked ten_equal ≡ record { given = codes "aaaaaaaaaa"; damage = None };
  of_three_groups : unpacked sentence ≡ record { given = codes "The quick brown fox jumps over the lazy dog, and 0123456789 other pangrams: Sphinx of black quartz, judge my vow!"; damage = None };
  of_three_streams : unpacked (banana ++ empty ++ ten_equal) ≡ record { given = codes "bananaaaaaaaaaaa"; damage = None };
  cut_in_the_head : unpacked (take 3 banana) ≡ record { given = []; damage = Some EarlyEnd };
  cut_in_the_block : unpacked (take 28 banana) ≡ record { given = []; damage = Some EarlyEnd };
  cut_behind_the_block : unpacked (take 38 banana) ≡ record { given = codes "banana"; damage = Some EarlyEnd };
  cut_in_the_second : unpacked (banana ++ take 20 ten_equal) ≡ record { given = codes "banana"; damage = Some EarlyEnd };
  followed_by_other_data : unpacked (banana ++ codes "BZ2") ≡ record { given = codes "banana"; damage = Some NoStream };
  of_another_checksum : unpacked (bad_block ++ ten_equal) ≡ record { given = []; damage = Some (Block BadChecksum) };
  of_a_shuffled_block : unpacked (ten_equal ++ shuffled) ≡ record { given = codes "aaaaaaaaaa"; damage = Some (Block Randomised) };
  of_another_sum : unpacked (bad_stream ++ ten_equal) ≡ record { given = codes "banana"; damage = Some StreamChecksum };
}
unfolding crc crc_bits crc_bit written written_from bits_of number_from length_from lengths_from first_code fits table_at tables_at symbol_at depth_at selectors_from selectors_at used_selectors values_in values_at column_from row_after text_from rows_at block_head_at block_at head_at block_in end_in unpack_from unpack
files = record {
  of_nothing = refl;
  of_an_empty_stream = refl;
  of_a_block = refl;
  of_a_run = refl;
  of_three_groups = refl;
  of_three_streams = refl;
  cut_in_the_head = refl;
  cut_in_the_block = refl;
  cut_behind_the_block = refl;
  cut_in_the_second = refl;
  followed_by_other_data = refl;
  of_another_checksum = refl;
  of_a_shuffled_block = refl;
  of_another_sum = refl;
}
