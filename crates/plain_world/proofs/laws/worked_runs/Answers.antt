-- each answer, and each sum of bytes, by computation
use Rattle.std.proofs.Common.{refl}
use Rattle.plain_world.proofs.laws.worked_runs.Goals as goal

pub returns : goal.returns
returns c = record {
  path = record { is_legal = (refl, (refl, (refl, (refl, (refl, (refl, (refl, (refl, tt)))))))); takes = refl; gives = refl };
  hole = record { is_legal = (refl, (refl, (refl, (refl, (refl, (refl, tt)))))); takes = refl; gives = refl };
  greatest_offset = record { is_legal = (refl, (refl, (refl, (refl, (refl, (refl, (refl, (refl, tt)))))))); takes = refl; gives = refl };
  size_limit = record { is_legal = (refl, (refl, (refl, (refl, (refl, (refl, (refl, tt))))))); takes = refl; gives = refl };
  pwrite_under_append = record { is_legal = (refl, (refl, (refl, (refl, (refl, (refl, (refl, (refl, (refl, (refl, tt)))))))))); takes = refl; gives = refl };
  opening = record {
    is_legal = (refl, (refl, (refl, (refl, (refl, (refl, (refl, (refl, (refl, (refl, (refl, (refl, (refl, (refl, (refl, tt)))))))))))))));
    takes = refl;
    gives = refl;
  };
  deferred_removal = record {
    is_legal = (refl, (refl, (refl, (refl, (refl, (refl, (refl, (refl, (refl, (refl, (refl, (refl, tt))))))))))));
    takes = refl;
    gives = refl;
  };
  duplicates = record {
    is_legal = (
      refl,
      (
        refl,
        (
          refl,
          (refl, (refl, (refl, (refl, (refl, (refl, (refl, (refl, (refl, (refl, (refl, (refl, (refl, (refl, tt)))))))))))))),
        ),
      ),
    );
    takes = refl;
    gives = refl;
  };
  renames = record {
    is_legal = (refl, (refl, (refl, (refl, (refl, (refl, (refl, (refl, (refl, (refl, (refl, (refl, (refl, (refl, (refl, tt)))))))))))))));
    takes = refl;
    gives = refl;
  };
  flags_of_descriptors = record {
    is_legal = (refl, (refl, (refl, (refl, (refl, (refl, (refl, (refl, (refl, (refl, (refl, (refl, (refl, tt)))))))))))));
    takes =
        refl;
    gives = refl;
  };
  nonblock_under_a_read = record {
    is_legal = (refl, (refl, (refl, (refl, (refl, (refl, (refl, (refl, (refl, (refl, (refl, tt)))))))))));
    takes = refl;
    gives =
        refl;
  };
  shared_offset = record { is_legal = (refl, (refl, (refl, (refl, (refl, (refl, (refl, (refl, (refl, (refl, tt)))))))))); takes = refl; gives = refl };
  closing = record { is_legal = (refl, (refl, (refl, (refl, (refl, (refl, (refl, (refl, (refl, (refl, tt)))))))))); takes = refl; gives = refl };
  nonblocking_fifo = record {
    is_legal = (refl, (refl, (refl, (refl, (refl, (refl, (refl, (refl, (refl, (refl, (refl, tt)))))))))));
    takes = refl;
    gives =
        refl;
  };
  narrow_fifo = record { is_legal = (refl, (refl, (refl, (refl, (refl, (refl, (refl, (refl, (refl, tt))))))))); takes = refl; gives = refl };
  exit_in_a_write_that_waits = record {
    is_legal = (refl, (refl, (refl, (refl, (refl, (refl, (refl, (refl, (refl, (refl, (refl, tt)))))))))));
    takes = refl;
    gives = refl;
  };
  last_reader_goes = record { is_legal = (refl, (refl, (refl, (refl, (refl, (refl, (refl, (refl, (refl, tt))))))))); takes = refl; gives = refl };
  fifo_rendezvous = record { is_legal = (refl, (refl, (refl, (refl, (refl, (refl, (refl, (refl, (refl, tt))))))))); takes = refl; gives = refl };
  parts_of_a_large_write = record { is_legal = (refl, (refl, (refl, (refl, (refl, (refl, (refl, (refl, (refl, (refl, tt)))))))))); takes = refl; gives = refl };
}
