-- A case as bytes: n, D and m, then the lower links of its pairs and the higher ones, a byte for each place, then the carry. The bytes do
-- not say the rulebook: they are read under the desk's. Assumes nothing.
use Rattle.std.specs.Prelude.{List, ◌++◌, ℕ, ◌+◌, take, drop}
use Rattle.definitions.specs.declared.Rulebook.TheVariants.{Desk}
use Rattle.definitions.specs.declared.Case.{Case}
use Rattle.definitions.specs.Rules.{edge_places}
use Rattle.encoding.specs.Numbers.{number_bytes, number_at, word_of, signed_of}

unfoldable pub bytes_of_case : Case → List ℕ
bytes_of_case c = number_bytes c.n ++ number_bytes c.d ++ number_bytes c.m ++ c.lower ++ c.upper ++ number_bytes (word_of c.carry)

-- all bytes of that length are those of a case; its limits and its carry's range are asked by the calls
unfoldable pub case_in : List ℕ → Case
case_in bytes = record {
  n = number_at bytes 0;
  d = number_at bytes 8;
  m = number_at bytes 16;
  lower = take edge_places (drop 24 bytes);
  upper = take edge_places (drop (24 + edge_places) bytes);
  carry = signed_of (number_at bytes (24 + (edge_places + edge_places)));
  rulebook = Desk;
}
