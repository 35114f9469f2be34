-- Tables of what import lists let in, and of what interfaces show.
use Rattle.std.specs.HashSet.{contains}
use Rattle.std.specs.Str.{bytes_eq}
use Rattle.import_resolve.specs.declared.listing.ListingTable.{ListingTable}
use Rattle.import_resolve.specs.declared.filter.FilterTable.{FilterTable}
use Rattle.import_resolve.specs.declared.filter.FilterTable.TheVariants.{Everything, Only, Hiding}
use Rattle.import_resolve.specs.declared.showing.ShowingTable.{ShowingTable}
use Rattle.import_resolve.specs.ImportLists.{Listing, Filter, Showing}
use Rattle.import_resolve.specs.Tables.{names_at}

-- what a table says that is listed
abbrev pub listing_at : ListingTable → Listing
listing_at t = record {
  values = contains bytes_eq t.values;
  types = contains bytes_eq t.types;
  bares = contains bytes_eq t.bares;
  wholes = contains bytes_eq t.wholes;
  cons = names_at t.cons;
}

abbrev pub filter_at : FilterTable → Filter
filter_at Everything = Filter.everything
filter_at (Only t) = Filter.only (listing_at t)
filter_at (Hiding t) = Filter.hiding (listing_at t)

abbrev pub showing_at : ShowingTable → Showing
showing_at t = record { values = contains bytes_eq t.values; types = contains bytes_eq t.types; cons = names_at t.cons }
