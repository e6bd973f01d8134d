use Rattle.std.proofs.Common.{refl}
use Rattle.exchange.specs.Bytes.{fields_of}
use Rattle.laws.specs.Examples.{first_bytes, second_bytes}
use Rattle.laws.proofs.examples_stand.Goals as goal

pub returns : goal.returns
returns c =
    record {
      below_half = refl;
      at_half = refl;
      at_minus_half = refl;
      first_exchange = (fields_of first_bytes, (refl, refl));
      second_exchange = (fields_of second_bytes, (refl, refl));
    }
