use Rattle.std.proofs.Common.{◌≡◌, ◌++◌, take, false}
use Rattle.std.specs.List.{flat_map}
use Rattle.libv7.specs.SessionJson.{json_byte}
use Rattle.libv7.proofs.session_json.put_json_bytes.Given as goal

abbrev pub invariant-loop-byte : goal.invariant-loop-byte
invariant-loop-byte l =
    l.text.is_cut ≡ false → (l.initial.text.is_cut ≡ false)
    × (l.text.bytes ≡ l.initial.text.bytes ++ flat_map json_byte (take l.byte-index l.bytes))
