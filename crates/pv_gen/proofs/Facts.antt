-- Worked examples of the sequence and of scripts, computed from the definitions.
use Rattle.std.proofs.Common.{◌≡◌, [], ◌∷◌, ◌++◌, map, codes, refl}
use Rattle.std.specs.Fmt.{digits}
use Rattle.std.specs.List.{range_with_len}
use Rattle.pv_gen.specs.Script.{fetched_at, price_at, script_of}
use Rattle.pv_gen.specs.Sequence.{output_at, state_at}
use Rattle.pv_gen.specs.declared.writing.TheConstants.{LAST_NUMBER}

-- the sequence that 1 begins: its first states, and their outputs
pub states : map (state_at 1) (range_with_len 1 3) ≡ 1103527590 ∷ 377401575 ∷ 662824084 ∷ []
states = refl

pub outputs : map (output_at 1) (range_with_len 1 3) ≡ 16838 ∷ 5758 ∷ 10113 ∷ []
outputs = refl

-- the prices of the pages of 2, and which of them are fetched
pub prices : map (price_at 2) (range_with_len 1 2) ≡ 8 ∷ 7 ∷ []
prices = refl

pub fetches : map (fetched_at 2) (range_with_len 1 4) ≡ 2 ∷ 1 ∷ 2 ∷ 2 ∷ []
fetches = refl

-- the last number that has a script
pub last : LAST_NUMBER ≡ 999
last = refl

-- the script of 1
pub script_of_one : script_of 1 ≡ codes "edit 0 LOGON 0000000000 0000\nedit 0 ACCOUNT 1 1000000001 ABCD 0 -\n"
    ++ codes "edit 0 NEW 1001a\nedit 0 ROW 2 FRAME 1\nedit 0 PRICE 8\nedit 0 STORE 2\n"
    ++ codes "carry 0\ndial 0 0\nkeys 0 0 1000000001ABCD\n"
    ++ codes "keys 0 0 *1001#\nkeys 0 0 *1001#\n"
    ++ codes "hang 0 0\ncrash 0\ncrash u\ncarry 0\nbill 1000000001\n"
unfolding digits
script_of_one = refl
