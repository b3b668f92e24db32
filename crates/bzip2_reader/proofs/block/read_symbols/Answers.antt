use Rattle.std.proofs.Common.{◌≡◌, ◌<◌, ◌+◌, [], length, length-take, get_or, map, take, sym, ◌∙◌, ap, arith}
use Rattle.std.proofs.lemmas.List.{get_or-map, get_or-take, length-map}
use Rattle.bzip2_reader.specs.Cursors.{bits_left}
use Rattle.bzip2_reader.specs.TableSets.{table_lengths}
use Rattle.bzip2_reader.proofs.SizeLaws.{tables_sized}
use Rattle.bzip2_reader.proofs.MoveLaws.{front_at}
use Rattle.bzip2_reader.proofs.block.read_symbols.Goals as goal

pub decode_symbols-requires-clause-selectors : goal.decode_symbols-requires-clause-selectors
decode_symbols-requires-clause-selectors c = λ k less.
    (let same = c.in_ok-read_tables.ensures.selectors in
    let groups = c.read_tables.new.codes.groups in
    let inside : k < groups = omega (arith, less, ap length c.selectors.ensures, length-take groups c.read_tables.new.codes.selectors) in
    let here : get_or c.selectors.result.now k 0 ≡ get_or c.read_selectors.new.codes.selectors k 0 =
    ap (λ l. get_or l k 0) c.selectors.ensures ∙ front_at groups k c.read_tables.new.codes.selectors inside ∙ ap (λ l. get_or l k 0) same.0 in
    let sized = tables_sized c.in_ok-tables.field-0 (c.in_ok-used.used + 2) (bits_left c.read_selectors.new.cursor) (bits_left c.read_tables.new.cursor) (map table_lengths (take c.read_tables.new.codes.count c.read_tables.new.codes.tables)) c.in_ok-read_tables.ensures.takes in
    let many : length c.tables.result.now ≡ c.in_ok-tables.field-0 = ap length c.tables.ensures ∙ sym (length-map (take c.read_tables.new.codes.count c.read_tables.new.codes.tables) table_lengths) ∙ sized.0 in
    omega (arith, here, many, c.in_ok-read_selectors.ensures.within k (omega (arith, inside, same.1))))

pub decode_symbols-requires-clause-tables : goal.decode_symbols-requires-clause-tables
decode_symbols-requires-clause-tables c = λ k d less.
    (let tables = take c.read_tables.new.codes.count c.read_tables.new.codes.tables in
    let sized = tables_sized c.in_ok-tables.field-0 (c.in_ok-used.used + 2) (bits_left c.read_selectors.new.cursor) (bits_left c.read_tables.new.cursor) (map table_lengths tables) c.in_ok-read_tables.ensures.takes in
    let inside : k < length tables = omega (arith, less, ap length c.tables.ensures) in
    let few : k < c.in_ok-tables.field-0 = omega (arith, inside, length-map tables table_lengths, sized.0) in
    ap (λ l. length (table_lengths (get_or l k d))) c.tables.ensures ∙ ap length (sym (get_or-map table_lengths tables k d [] inside)) ∙ sized.1 k few)

pub returns-clause-small : goal.returns-clause-small
returns-clause-small c = λ k less.
    (let n = c.in_ok-decoded.decoded.count in
    let column = c.decode_symbols.new.column in
    omega (arith, get_or-take n column k 0 (omega (arith, less, length-take n column)), c.type_inv.column k))
