-- `layout::engine_at` meets its contract.
-- Assumes nothing.
use Rattle.layout.proofs.Places.{entry_places}
use Rattle.layout.proofs.engine_at.Goals as goal

pub returns : goal.returns
returns c =
    let c4 = c in
    rw entry_places
    (λ i. record {
      mcr = record { low = c4.number_at.ensures i; high = c4.number_at-2.ensures i };
      limit = c4.number_at-limit.ensures i;
      uses = record {
        sfc = record { low = c4.number_at-3.ensures i; high = c.number_at-4.ensures i };
        fuel = c.number_at-5.ensures i;
        source = c.number_at-6.ensures i;
      };
    })
