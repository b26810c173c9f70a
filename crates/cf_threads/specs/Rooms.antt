-- A host of which nothing is known.
use Rattle.std.specs.Prelude.{[]}
use Rattle.atomic_table.specs.Seated.{TableId}
use Rattle.cf_request.specs.Machines.{Machine}
use Rattle.cf_threads.specs.declared.place.Place.{Place}

abbrev pub no_table : TableId
no_table = record { words = 0; slots = 0; views_name = 0; atom = 0; block = 0; offset = 0; slot_names = [] }

abbrev pub no_place : Place
no_place = record { who = 0; lane = 0 }

abbrev pub no_machine : Machine
no_machine = record {
  teller = record {
    ledger = record { plan = record { stages = []; limits = []; opened = 0; room = 0 }; events = []; free = 0 };
    taken = [];
    told = [];
    lanes = record { of = []; count = 0 };
  };
  follows = [];
  deadlines = [];
  moment = 0;
  own = 0;
  relay_places = 0;
  deadline_places = 0;
}
