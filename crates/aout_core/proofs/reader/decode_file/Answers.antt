use Rattle.std.proofs.Common.{◌≡◌, ◌≤◌, ◌∙◌, ℕ, List, ap, length, length-take, sym, take, take_all, arith, rules}
use Rattle.std.specs.Prelude.{Result, Ok}
use Rattle.aout_core.specs.Decoding.{contents_in, header_in, header_of}
use Rattle.aout_core.specs.{Contents.Contents, Reading.IsFileHeader, Words.words_in, declared.file.ReadFault.ReadFault}
use Rattle.aout_core.proofs.ReadLemmas.{decoded}
use Rattle.aout_core.proofs.reader.decode_file.Goals as goal

pub returns-clause-decodes : goal.returns-clause-decodes
returns-clause-decodes c =
    let bytes = c.args.bytes.now in
    let h = c.read-header.result in
    let start = c.in-Some.start.now in
    let front : start ≡ take 16 bytes = search rules in
    let enough : 16 ≤ length bytes = search rules in
    let long : length start ≡ 16 = omega (arith, ap length front, length-take 16 bytes) in
    let header : header_in bytes ≡ h =
    ap (λ (l : List ℕ). header_of (words_in l)) (sym (take_all 16 start (omega arith) ∙ front)) ∙ sym c.read-header.ensures in
    let good : IsFileHeader h = record { magic = search rules; sizes = search rules } in
    let read : c.from_parts.result ≡ contents_in h bytes = search rules in
    ap (λ (x : Contents). let r : Result Contents ReadFault = Ok x in r) read
    ∙ sym (decoded bytes h header (search rules) good (search rules))
